-- What the events and replies of a life say of its committer.
use Rattle.std.specs.Prelude.{ℕ, List, [], ◌∷◌, ◌++◌, ◌+◌, Bool, true, false, cond}
use Rattle.group_commit.specs.declared.refused.DeskRefused.TheVariants.{Device, Worn}
use Rattle.event_model.specs.declared.event.Event.{Event}
use Rattle.event_model.specs.declared.event.Event.TheVariants.{Commit}
use Rattle.event_model.specs.declared.reply.Reply.{Reply}
use Rattle.event_model.specs.declared.reply.Reply.TheVariants.{Taken, Committed, NotCommitted, Memory}

-- how many requests it took, how many of these are settled, the groups that it gave to commits, each from one place of the requests up
-- to another, and whether the device failed
pub record Given : Type 0 where
  pub taken : ℕ
  pub done : ℕ
  pub groups : List (ℕ × ℕ)
  pub down : Bool

-- at the beginning of a life
abbrev pub nothing_given : Given
nothing_given = record { taken = 0; done = 0; groups = []; down = false }

-- one group more, of all that is taken and isn't settled
abbrev pub with_group : Given → Given
with_group g = record g { groups = g.groups ++ (g.done, g.taken) ∷ [] }

-- After an event and its reply: a request is taken; or a commit was given a group. It settled that where it was answered Ok, and not
-- where the device, a limit or memory refused it. After a failure of the device commits are given nothing.
abbrev pub given_after : Given → Event → Reply → Given
given_after g event (Taken session ticket) = record g { taken = g.taken + 1 }
given_after g event (Committed accepted) = record (with_group g) { done = g.taken }
given_after g event (NotCommitted Device) = record (with_group g) { down = true }
given_after g event (NotCommitted Worn) = with_group g
given_after g Commit Memory = cond g.down g (with_group g)
given_after g event reply = g

-- after events and their replies
abbrev pub given_by : Given → List Event → List Reply → Given
given_by g (event ∷ events) (reply ∷ replies) = given_by (given_after g event reply) events replies
given_by g events replies = g

-- the groups that a life gave to commits, by its events and replies alone
abbrev pub groups_given : List Event → List Reply → List (ℕ × ℕ)
groups_given events replies = (given_by nothing_given events replies).groups
