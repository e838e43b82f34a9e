-- By which generation a forwarder goes: the newest one that a look saw.
use Rattle.std.proofs.Common.{◌≡◌, ◌≤◌, ◌+◌, ◌-◌, ℕ, zero, suc, List, [], ◌∷◌, ◌++◌, length, map, drop, fold, Option, Some, None, refl, sym, ap, ◌∙◌, subst, arith, length-append}
use Rattle.std.specs.List.{last_or}
use Rattle.std.specs.Option.{option_map}
use Rattle.schemes.specs.declared.parts.Parts.{Parts}
use Rattle.generations.specs.declared.posting.Notice.{Notice}
use Rattle.generations.specs.declared.posting.Notice.TheVariants.{Marked, Failed, Built}
use Rattle.generations.specs.Notices.{generations_in, numbers_in}
use Rattle.generations.specs.Shelves.{newest}
use Rattle.generations.specs.Boards.{BoardState, after, fresh, latest_of, number_or}
use Rattle.generations.specs.Beginnings.{Beginning, GoesOn, board_after}
use Rattle.generations.proofs.Sharing.{goes_trans}
use Rattle.forwarders.specs.declared.refused.Refused.{Refused}
use Rattle.forwarders.specs.declared.refused.Refused.TheVariants.{Unreachable}
use Rattle.packet_ways.specs.declared.carried.Carried.{Carried}
use Rattle.packet_ways.specs.declared.carried.Carried.TheVariants as carried
use Rattle.packet_ways.specs.Standing.{IsNewest}
use Rattle.service_actors.specs.declared.forwarding.Launched.{Launched}
use Rattle.service_actors.specs.declared.forwarding.Launched.TheVariants.{Answered}
use Rattle.service_actors.specs.Forwarded.{IsAlongIn, IsByNewest, IsLaunchedByNewest, WasNewest, launched_at}

-- ---- the newest generation on the shelf is that of the list

last_map : {A B : Type 0} (f : A → B) (o : Option A) (xs : List A) → last_or (option_map f o) (map f xs) ≡ option_map f (last_or o xs)
last_map f o [] = refl
last_map f o (x ∷ xs) = last_map f (Some x) xs

-- what stands last is found, however many before it go
last_stays : (k : ℕ) (o : Option ℕ) (shelf : List (Option (ℕ × Parts))) (g : ℕ × Parts) → k ≤ length shelf → fold number_or o (drop k (shelf ++ Some g ∷ [])) ≡ Some g.0
last_stays zero o [] g le = refl
last_stays zero o (x ∷ shelf) g le = last_stays zero (number_or o x) shelf g (omega arith)
last_stays (suc k) o [] g le = absurd (omega (arith, le))
last_stays (suc k) o (x ∷ shelf) g le = last_stays k o shelf g (omega (arith, le))

put_last : (shelf : List (Option (ℕ × Parts))) (g : ℕ × Parts) → latest_of (newest (shelf ++ Some g ∷ [])) ≡ Some g.0
put_last shelf g = last_stays (length (shelf ++ Some g ∷ []) - 4) None shelf g (let long : length (shelf ++ Some g ∷ []) ≡ length shelf + 1 = length-append shelf (Some g ∷ []) in omega (arith, long))

latest_fold : (log : List Notice) (s : BoardState) → latest_of (fold after s log).shelf ≡ last_or (latest_of s.shelf) (numbers_in log)
latest_fold [] s = refl
latest_fold (Marked ms ∷ log) s = latest_fold log (after s (Marked ms))
latest_fold (Failed ∷ log) s = latest_fold log (after s Failed)
latest_fold (Built n p ∷ log) s = latest_fold log (after s (Built n p)) ∙ ap (λ (o : Option ℕ). last_or o (numbers_in log)) (put_last s.shelf (n, p))

shelf_newest : (seen : Beginning) (number : ℕ) → latest_of (board_after seen).shelf ≡ Some number → IsNewest seen number
shelf_newest seen number found =
    sym (last_map (λ (g : ℕ × Parts). g.0) None (generations_in seen.log)) ∙ (sym (latest_fold seen.log (fresh seen.opening.starts seen.opening.count)) ∙ found)

-- ---- a look between two

pub looked_newest : (old seen new : Beginning) (number : ℕ) → GoesOn old seen → latest_of (board_after seen).shelf ≡ Some number → GoesOn seen new → WasNewest old new number
looked_newest old seen new number since found on = record { seen = seen; since = since; newest = shelf_newest seen number found; on = on }

pub was_wider : (old from to new : Beginning) (number : ℕ) → GoesOn old from → GoesOn to new → WasNewest from to number → WasNewest old new number
was_wider old from to new number before behind was = record {
  seen = was.seen;
  since = goes_trans old from was.seen before was.since;
  newest = was.newest;
  on = goes_trans was.seen to new was.on behind;
}

pub newest_wider : (old from to new : Beginning) (carried : Carried) → GoesOn old from → GoesOn to new → IsByNewest from to carried → IsByNewest old new carried
newest_wider old from to new (carried.Along generation nodes length) before behind is = was_wider old from to new generation before behind is
newest_wider old from to new (carried.Unreachable generation) before behind is = was_wider old from to new generation before behind is
newest_wider old from to new carried.NoNode before behind is = tt

-- ---- a launch

pub refused_newest : (old new : Beginning) (generation : ℕ) (refused : Refused) → WasNewest old new generation → IsLaunchedByNewest old new (launched_at generation refused)
refused_newest old new generation Unreachable was = was
refused_newest old new generation _ was = tt

pub along_newest : (old new : Beginning) (generation : ℕ) (launched : Launched) → WasNewest old new generation → IsAlongIn generation launched → IsLaunchedByNewest old new launched
along_newest old new generation (Answered (carried.Along told nodes length)) was along = subst (WasNewest old new) (sym along) was
along_newest old new generation (Answered _) was along = absurd along
along_newest old new generation _ was along = tt
