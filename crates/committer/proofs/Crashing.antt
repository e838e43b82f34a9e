-- What a crash leaves over a commit, said from the store before the requests were taken.
use Rattle.std.proofs.Common.{◌≡◌, ◌⊎◌, ℕ, List, [], ◌++◌, length, drop, IsTrue, false, ◌∷◌, refl, arith, ap, sym, ◌∙◌, subst, append-nil, inl}
use Rattle.generations.proofs.Keeping.{drop_front, drop_whole}
use Rattle.disk_trait.specs.Disk.{IsSameDevice, LeavesOnly, started}
use Rattle.requests.specs.declared.request.Request.{Request}
use Rattle.checkpoint.specs.declared.store.Store.{Store}
use Rattle.checkpoint.specs.StoreWords.{state_of, view_of, is_down, stands_now}
use Rattle.layout_2.specs.Standing.{StandsFor}
use Rattle.layout_2.specs.State.{State}
use Rattle.group_commit.specs.Settling.{settle}
use Rattle.committer.specs.Crashes.{StandsForEither, LeavesGroupWhole}

-- a store that stays leaves what was left
pub moved : {D : Type 0} {V : _} → (old mid new : Store D V) (P : List ℕ → Type 0) → new ≡ mid → LeavesOnly (view_of old) (view_of mid) P → LeavesOnly (view_of old) (view_of new) P
moved old mid new P same left = subst (λ s. LeavesOnly (view_of old) (view_of s) P) (sym same) left

-- a store that stays leaves its state
pub stays : {D : Type 0} {V : _} → (old new : Store D V) (next : State) → new ≡ old → IsTrue (view_of old).keeps_model → is_down old ≡ false
    → LeavesOnly (view_of old) (view_of new) (λ image. StandsFor (state_of old) image ⊎ StandsFor next image)
stays old new next same model up =
    moved old old new (λ image. StandsFor (state_of old) image ⊎ StandsFor next image) same
    (started (view_of old) (λ image. StandsFor (state_of old) image ⊎ StandsFor next image) (λ image left. inl (stands_now old model up image left)))

abbrev Leaves : {D : Type 0} {V : _} → Store D V → List Request → Store D V → Type 0
Leaves mid held new = LeavesOnly (view_of mid) (view_of new) (λ image. StandsFor (state_of mid) image ⊎ StandsFor (settle (state_of mid) held).state image)

-- ---- what a crash leaves between two calls

-- what keeps the model after a call kept it before
pub kept_model : {D : Type 0} {V : _} → (old mid new : Store D V) → IsSameDevice (view_of old) (view_of mid) → new ≡ mid → IsTrue (view_of new).keeps_model → IsTrue (view_of old).keeps_model
kept_model old mid new ran same model = subst IsTrue (ap (λ s. (view_of s).keeps_model) same ∙ ran.model) model

-- a store that is up leaves its state
pub up_leaves : {D : Type 0} {V : _} → (store : Store D V) (held : List Request) → is_down store ≡ false → IsTrue (view_of store).keeps_model → LeavesGroupWhole store held
up_leaves store held up model image left = ∣ inl (stands_now store model up image left) ∣₁

-- one whose device has failed in a commit leaves the state of before, or the one with the whole group
pub down_leaves : {D : Type 0} {V : _} → (old new : Store D V) (held held' : List Request) → state_of new ≡ state_of old → held' ≡ held → Leaves old held new → LeavesGroupWhole new held'
down_leaves old new held held' same still leaves image left =
    subst (λ (x : State × List Request). StandsForEither x.0 x.1 image) (λ i. (sym same i, sym still i)) ∣ leaves.now image left ∣₁

-- ---- what was held or taken

pub taken_first : (held got now new last : List Request) → held ≡ [] → new ≡ got ++ now → last ≡ new → now ≡ held ++ drop (length got) last
taken_first held got now new last none front same =
    sym (ap (λ l. l ++ drop (length got) last) none ∙ (ap (drop (length got)) (same ∙ front) ∙ drop_front got now))

-- .. and where a group was held
pub held_first : (held got now last : List Request) → now ≡ held → last ≡ got → now ≡ held ++ drop (length got) last
held_first held got now last same still = same ∙ sym (ap (λ l. held ++ l) (ap (drop (length got)) still ∙ drop_whole got) ∙ append-nil held)

pub none_of : {A : Type 0} (xs : List A) (n : ℕ) → n ≡ length xs → n ≡ 0 → xs ≡ []
none_of [] n long is = refl
none_of (x ∷ xs) n long is = absurd (omega (arith, is, long))
