-- The server goes to its place.
use Rattle.std.proofs.Common.{◌≡◌, false, not, arith, sym, ◌∙◌, ap}
use Rattle.std.specs.Prelude.{nat_lt}
use Rattle.std.proofs.lemmas.List.Sums.{prefix_len-le-length}
use Rattle.world_servers.specs.declared.servers.DeclaredServer.{DeclaredServer}
use Rattle.world_servers.specs.Naming.{is_there, with_declared}
use Rattle.world_servers.proofs.Tabled.{below, inserts}
use Rattle.world_servers.proofs.servers.Servers.declare.Goals as goal

pub insert-requires : goal.insert-requires
insert-requires c = omega (arith, prefix_len-le-length (λ (x : DeclaredServer). not (nat_lt c.args.server.number x.number)) c.deref.result.now, c.place_of-at.ensures, c.deref.ensures.len)

pub returns-clause-ok : goal.returns-clause-ok
returns-clause-ok c =
    let at : c.place_of-at.result ≡ below c.args.server.number c.self.inside.list.items = c.place_of-at.ensures ∙ ap (λ l. below c.args.server.number l) c.deref.ensures.value in
    let new : is_there c.self.inside.list.items c.args.server.number ≡ false = ap (λ l. is_there l c.args.server.number) c.self.view_is ∙ c.requires in
    c.in_ok-insert.ensures.items ∙ (sym (inserts c.self.inside.list.items c.args.server c.place_of-at.result new at) ∙ ap (λ l. with_declared l c.args.server) c.self.view_is)
