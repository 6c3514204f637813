use Rattle.group_lives.proofs.Taking.{places_agree, certs_agree, views_agree}
use Rattle.group_lives.proofs.lists_agree.Goals as goal

pub returns-clause-places : goal.returns-clause-places
returns-clause-places c = places_agree

pub returns-clause-certified : goal.returns-clause-certified
returns-clause-certified c = certs_agree

pub returns-clause-view : goal.returns-clause-view
returns-clause-view c = views_agree
