-- Each request has its own call.
use Rattle.member_moment.proofs.moment.Moment.call.Goals as goal

pub open-requires : goal.open-requires
open-requires c = rw c.in-Begin.is at c.requires

pub returns-in-Begin : goal.returns-in-Begin
returns-in-Begin c = rw c.in-Begin.is c.open.ensures

pub returns-in-Get : goal.returns-in-Get
returns-in-Get c = rw c.in-Get.is c.get.ensures

pub returns-in-Insert : goal.returns-in-Insert
returns-in-Insert c = rw c.in-Insert.is c.insert.ensures

pub returns-in-Update : goal.returns-in-Update
returns-in-Update c = rw c.in-Update.is c.update.ensures

pub returns-in-Delete : goal.returns-in-Delete
returns-in-Delete c = rw c.in-Delete.is c.delete.ensures

pub returns-in-Rollback : goal.returns-in-Rollback
returns-in-Rollback c = rw c.in-Rollback.is c.roll_back.ensures

pub returns-in-Commit : goal.returns-in-Commit
returns-in-Commit c = rw c.in-Commit.is c.commit.ensures
