-- A group was committed, and its marks are given out for whoever posts them.
use Rattle.std.proofs.Common.{◌≡◌, ℕ, [], Some, MatchBool, false, refl, ap, ◌∙◌}
use Rattle.checkpoint.specs.StoreWords.{state_of, is_down}
use Rattle.layout_2.specs.State.{State}
use Rattle.generations.specs.declared.posting.Posting.{Posting}
use Rattle.generations.specs.declared.posting.Notice.TheVariants.{Marked}
use Rattle.generations.specs.Notices.{notice_of}
use Rattle.group_commit.specs.DeskWords.{store_of as desk_store, held_of as desk_held, due_of as desk_due, settled_of}
use Rattle.group_commit.specs.Groups.{IsGroupCommitted}
use Rattle.group_commit.specs.declared.desk.Desk.{Desk}
use Rattle.committer.specs.declared.committer.Committer.{Committer}
use Rattle.committer.specs.Outboxes.{Outgoing, with_posted, with_due}
use Rattle.committer.specs.CommitterWords.{desk_of, store_of, got_of, posts_of}
use Rattle.request_lists.specs.declared.builds.Builds.{Builds}
use Rattle.committer.specs.Listed.{IsListed, IsListedFrom}
use Rattle.committer.proofs.Listings.{committed_listed}
use Rattle.committer.proofs.Settles.{marks_said}

-- What a desk is then, and what the posting says, of what the desk held before.
pub record IsGivenOut {D : Type 0} {V : _} (old new : Desk D V) (marks : Posting) : Type 0 where
  -- the posting says just the group's marks
  pub said : notice_of marks ≡ Marked (settled_of old).marks
  -- the store has the settled state
  pub state : state_of (desk_store new) ≡ (settled_of old).state
  -- nothing is held
  pub held : desk_held new ≡ []
  -- the store is up
  pub up : is_down (desk_store new) ≡ false

-- so it is behind the commit, once what is due is paid
pub given_out : {D : Type 0} {V : _} → (old mid new : Desk D V) (accepted : ℕ) (marks : Posting) → IsGroupCommitted old mid accepted → is_down (desk_store mid) ≡ false
    → desk_store new ≡ desk_store mid → desk_held new ≡ desk_held mid → Some marks ≡ desk_due mid → IsGivenOut old new marks
given_out old mid new accepted marks done up store held given = record {
  said = marks_said _ marks (settled_of old).marks given done.marks;
  state = ap state_of store ∙ done.state;
  held = held ∙ done.none_held;
  up = ap is_down store ∙ up;
}

-- the list goes on, whether the marks are posted or due
pub given_listed : {D R : Type 0} {V : _} → (old : Committer D R V) (desk : Desk D V) (posts : Outgoing) (marks : Posting) (told : _) → is_down (store_of old) ≡ false → (posts_of old).due ≡ []
    → IsGivenOut (desk_of old) desk marks → MatchBool told (posts ≡ with_posted (posts_of old) (notice_of marks)) (posts ≡ with_due (posts_of old) (notice_of marks))
    → (builds : Builds) (first : State) → IsListedFrom builds first old → IsListed builds first posts (desk_held desk) (got_of old) (state_of (desk_store desk)) (is_down (desk_store desk))
given_listed old desk posts marks told up none out say builds first is =
    committed_listed first (posts_of old) posts (notice_of marks) told _ (desk_held desk) (got_of old) (got_of old) _ (state_of (desk_store desk)) _ (is_down (desk_store desk)) is up none out.said say out.held refl out.state out.up
