-- The disk model: what contracts see of a disk, what its calls do, and what a crash may leave.
--
-- A disk has a content, and ranges in which it isn't safe. Each write adds the range that it names, whole, however far it came;
-- only a sync that answers Ok takes the ranges away. What a crash leaves is as long as the content and differs from it at most
-- inside the ranges.
--
-- Contracts don't see the ranges. They see which images a crash may leave, and each call says how these come from those of before.
use Rattle.std.specs.Prelude.{◌≡◌, ◌⊎◌, ◌<◌, ◌≤◌, ◌+◌, ℕ, List, ◌++◌, length, get_or, take, drop, Bool, IsTrue, Result, IsErr, OnOk, refl}
use Rattle.std.proofs.Common.{inl, inr, ⊎_elim, sym, ◌∙◌, subst}
use Rattle.std.proofs.Math.Nat.{le_refl, le_trans}
use Rattle.disk_trait.specs.declared.disk.DeviceFault.{DeviceFault}

-- a disk as contracts see it
pub record DiskView : Type 1 where
  -- what a read gives
  pub content : List ℕ
  -- the moment, as a number: each call of the device moves it on by one, and nothing back
  pub clock : ℕ
  -- what a crash at some moment from that one on, until now, may have left, be it during a call or between two
  pub left_since : ℕ → List ℕ → Type 0
  -- how often the disk has failed
  pub failures : ℕ
  -- whether it keeps the disk model; a file on a real device promises nothing of its content
  pub keeps_model : Bool

-- what a crash at this moment may leave
abbrev pub MayLeave : DiskView → List ℕ → Type 0
MayLeave disk image = disk.left_since disk.clock image

-- whatever a crash leaves, it is the content
abbrev pub IsSettled : DiskView → Type 0
IsSettled disk = (image : List ℕ) → MayLeave disk image → image ≡ disk.content

-- ---- bytes at places

-- old with these bytes from at on
abbrev pub overwritten : List ℕ → ℕ → List ℕ → List ℕ
overwritten old at bytes = take at old ++ bytes ++ drop (at + length bytes) old

-- the n bytes from at on
abbrev pub bytes_at : List ℕ → ℕ → ℕ → List ℕ
bytes_at content at n = take n (drop at content)

-- any bytes in the n places from at on, and the same bytes elsewhere
pub record Torn (at n : ℕ) (old new : List ℕ) : Type 0 where
  pub as_long : length new ≡ length old
  pub before : take at new ≡ take at old
  pub after : drop (at + n) new ≡ drop (at + n) old

-- ---- one call

-- What a call of a disk that keeps the model does to it, where it writes the n places from at on (a read or a sync: none).
-- It says the same of a write that is done, failed or cut, and of a moment inside the call.
pub record WritesWithin (at n : ℕ) (old new : DiskView) : Type 0 where
  pub later : old.clock ≤ new.clock
  pub content : Torn at n old.content new.content
  -- an image of now is one of before, torn in the range
  pub torn : (image : List ℕ) → MayLeave new image → (before : List ℕ) × MayLeave old before × Torn at n before image
  -- a crash since t may have left what it might have left before the call, or what it may leave now
  pub since : (t : ℕ) (image : List ℕ) → t ≤ old.clock → new.left_since t image → old.left_since t image ⊎ MayLeave new image
  -- and what it might have left before stays possible: nothing is forgotten
  pub keeps : (t : ℕ) (image : List ℕ) → t ≤ old.clock → old.left_since t image → new.left_since t image

-- what stays, or grows, over every run of calls
pub record IsSameDevice (old new : DiskView) : Type 0 where
  pub as_long : length new.content ≡ length old.content
  pub model : new.keeps_model ≡ old.keeps_model
  pub no_fewer : old.failures ≤ new.failures

-- over no call
pub ran_none : (disk : DiskView) → IsSameDevice disk disk
ran_none disk = record { as_long = refl; model = refl; no_fewer = le_refl disk.failures }

-- over calls after others
pub ran_on : (old mid new : DiskView) → IsSameDevice old mid → IsSameDevice mid new → IsSameDevice old new
ran_on old mid new first second = record { as_long = second.as_long ∙ first.as_long; model = second.model ∙ first.model; no_fewer = le_trans first.no_fewer second.no_fewer }

-- what every call does, where it writes the n places from at on; it counts as one, be it served or not; a fault is answered only where
-- the disk has failed in the call, and Ok only where it hasn't
pub record IsDeviceCall (at n : ℕ) (old new : DiskView) (result : Result (Unit {0}) DeviceFault) : Type 0 where
  pub ran : IsSameDevice old new
  pub counted : new.clock ≡ old.clock + 1
  pub fault : IsErr result → old.failures < new.failures
  pub served : OnOk result (new.failures ≡ old.failures)
  pub moves : IsTrue old.keeps_model → WritesWithin at n old new

-- what is seen stays
pub record Unchanged (old new : DiskView) : Type 0 where
  pub content : new.content ≡ old.content
  pub clock : new.clock ≡ old.clock
  pub left : (t : ℕ) (image : List ℕ) → new.left_since t image → old.left_since t image
  pub left_before : (t : ℕ) (image : List ℕ) → old.left_since t image → new.left_since t image
  pub failures : new.failures ≡ old.failures
  pub model : new.keeps_model ≡ old.keeps_model

-- ---- runs of calls

-- from old to new the device had at most n calls
abbrev pub AtMostCalls : ℕ → DiskView → DiskView → Type 0
AtMostCalls n old new = new.clock ≤ old.clock + n

-- from old to new, a crash at any moment leaves an image that has P
pub record LeavesOnly (old new : DiskView) (P : List ℕ → Type 0) : Type 0 where
  pub later : old.clock ≤ new.clock
  -- at some moment of the run
  pub each : (image : List ℕ) → new.left_since old.clock image → P image
  -- at its end
  pub now : (image : List ℕ) → MayLeave new image → P image
  -- for a run that began earlier: what could be left before this one, or what has P
  pub since : (t : ℕ) (image : List ℕ) → t ≤ old.clock → new.left_since t image → old.left_since t image ⊎ P image

-- before the first call
pub started : (disk : DiskView) (P : List ℕ → Type 0) → ((image : List ℕ) → MayLeave disk image → P image) → LeavesOnly disk disk P
started disk P here = record { later = le_refl disk.clock; each = here; now = here; since = λ t image le left. inl left }

-- one call more, after which a crash leaves what has P
pub one_call_more : {at n : ℕ} (old mid new : DiskView) (P : List ℕ → Type 0) → LeavesOnly old mid P → WritesWithin at n mid new → ((image : List ℕ) → MayLeave new image → P image) → LeavesOnly old new P
one_call_more old mid new P so_far call here = record {
  later = le_trans so_far.later call.later;
  each = λ image left. ⊎_elim (so_far.each image) (here image) (call.since old.clock image so_far.later left);
  now = here;
  since = λ t image le left. ⊎_elim (so_far.since t image le) (λ now. inr (here image now)) (call.since t image (le_trans le so_far.later) left);
}

-- a run after a run
pub joined : (old mid new : DiskView) (P Q R : List ℕ → Type 0) → LeavesOnly old mid P → LeavesOnly mid new Q → ((image : List ℕ) → P image → R image) → ((image : List ℕ) → Q image → R image) → LeavesOnly old new R
joined old mid new P Q R first second p q = record {
  later = le_trans first.later second.later;
  each = λ image left. ⊎_elim (λ was. p image (first.each image was)) (q image) (second.since old.clock image first.later left);
  now = λ image left. q image (second.now image left);
  since = λ t image le left. ⊎_elim (λ was. ⊎_elim inl (λ here. inr (p image here)) (first.since t image le was)) (λ here. inr (q image here)) (second.since t image (le_trans le first.later) left);
}

-- it leaves what has another fact that follows
pub weaker : (old new : DiskView) (P Q : List ℕ → Type 0) → LeavesOnly old new P → ((image : List ℕ) → P image → Q image) → LeavesOnly old new Q
weaker old new P Q run f = record {
  later = run.later;
  each = λ image left. f image (run.each image left);
  now = λ image left. f image (run.now image left);
  since = λ t image le left. ⊎_elim inl (λ here. inr (f image here)) (run.since t image le left);
}

-- ---- reading

-- the disk was read, or not used at all: the content stays, and a crash leaves nothing that it could not leave before
pub record OnlyRead (old new : DiskView) : Type 0 where
  pub later : old.clock ≤ new.clock
  pub content : new.content ≡ old.content
  pub left : (image : List ℕ) → MayLeave new image → MayLeave old image
  pub since : (t : ℕ) (image : List ℕ) → t ≤ old.clock → new.left_since t image → old.left_since t image ⊎ MayLeave old image

-- so it is after one call that writes nothing, a read or a sync, whatever it answers
pub only_read : (old new : DiskView) (result : Result (Unit {0}) DeviceFault) → IsDeviceCall 0 0 old new result → IsTrue old.keeps_model → OnlyRead old new
only_read old new result call model =
    let moves : WritesWithin 0 0 old new = call.moves model in
    let left : (image : List ℕ) → MayLeave new image → MayLeave old image = λ image now. let from = moves.torn image now in subst (MayLeave old) (sym from.2.after) from.1 in
    record {
      later = moves.later;
      content = moves.content.after;
      left = left;
      since = λ t image le now. ⊎_elim inl (λ here. inr (left image here)) (moves.since t image le now);
    }

-- so it is after no call
pub nothing_read : (disk : DiskView) → OnlyRead disk disk
nothing_read disk = record { later = le_refl disk.clock; content = refl; left = λ image now. now; since = λ t image le now. inl now }

-- reads after reads
pub read_on : (old mid new : DiskView) → OnlyRead old mid → OnlyRead mid new → OnlyRead old new
read_on old mid new first second = record {
  later = le_trans first.later second.later;
  content = second.content ∙ first.content;
  left = λ image now. first.left image (second.left image now);
  since = λ t image le now. ⊎_elim (first.since t image le) (λ here. inr (first.left image here)) (second.since t image (le_trans le first.later) now);
}

-- while a disk is only read, a crash leaves what it could leave before
pub reading_leaves : (old new : DiskView) (P : List ℕ → Type 0) → OnlyRead old new → ((image : List ℕ) → MayLeave old image → P image) → LeavesOnly old new P
reading_leaves old new P read here = record {
  later = read.later;
  each = λ image left. ⊎_elim (here image) (here image) (read.since old.clock image (le_refl old.clock) left);
  now = λ image left. here image (read.left image left);
  since = λ t image le left. ⊎_elim inl (λ now. inr (here image now)) (read.since t image le left);
}

-- ---- text behind a gate, a byte that opens it

-- before with the text behind the gate, and any byte as the gate
pub record HasTextBehind (gate : ℕ) (bytes before image : List ℕ) : Type 0 where
  pub torn : Torn gate (length bytes + 1) before image
  pub text : bytes_at image (gate + 1) (length bytes) ≡ bytes

-- the same, of an image of the disk, with an open gate
pub record IsPublished (disk : DiskView) (gate : ℕ) (text image : List ℕ) : Type 0 where
  pub before : List ℕ
  pub was : MayLeave disk before
  pub shows : HasTextBehind gate text before image
  pub is_open : get_or image gate 0 ≡ 1

-- Text is put behind a gate: an image of before with any bytes behind the gate, or with any byte as the gate and the text behind it.
abbrev pub IsPublishing : DiskView → ℕ → List ℕ → List ℕ → Type 0
IsPublishing disk gate text image = (before : List ℕ) × MayLeave disk before × (Torn (gate + 1) (length text) before image ⊎ HasTextBehind gate text before image)

-- an image of before, torn in the n places from at on
abbrev pub IsTornFrom : DiskView → ℕ → ℕ → List ℕ → Type 0
IsTornFrom disk at n image = (before : List ℕ) × MayLeave disk before × Torn at n before image
