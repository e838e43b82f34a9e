-- Answers that are printed one after the other.
use Rattle.std.proofs.Common.{◌≡◌, ◌++◌, [], ℕ, List, Option, Some, None, refl, sym, ap, ◌∙◌, append-nil, append_assoc}
use Rattle.std.specs.Io.KnownBytes.{Appends, Keeps}
use Rattle.line_exchange.specs.Begun.{Begins}
use Rattle.line_exchange.specs.Inputs.{Input}
use Rattle.line_exchange.specs.Prints.{HasPrinted}

pub appends_none : (old : Option (List ℕ)) → Appends old old []
appends_none None = tt
appends_none (Some xs) = sym (append-nil xs)

pub appends_more : (old mid new : Option (List ℕ)) (bs cs : List ℕ) → Appends old mid bs → Appends mid new cs → Appends old new (bs ++ cs)
appends_more None mid new bs cs first then = tt
appends_more (Some xs) None new bs cs first then = absurd first
appends_more (Some xs) (Some ys) None bs cs first then = absurd then
appends_more (Some xs) (Some ys) (Some zs) bs cs first then = then ∙ (ap (λ (l : List ℕ). l ++ cs) first ∙ append_assoc xs bs cs)

pub appends_still : (old mid new : Option (List ℕ)) (bs : List ℕ) → Appends old mid bs → Keeps mid new → Appends old new bs
appends_still None mid new bs first kept = tt
appends_still (Some xs) None new bs first kept = absurd first
appends_still (Some xs) (Some ys) None bs first kept = absurd kept
appends_still (Some xs) (Some ys) (Some zs) bs first kept = kept ∙ first

-- what it holds is what it held and nothing more
pub appends_nothing : (old new : Option (List ℕ)) → Keeps old new → Appends old new []
appends_nothing None new kept = tt
appends_nothing (Some xs) None kept = absurd kept
appends_nothing (Some xs) (Some ys) kept = kept ∙ sym (append-nil xs)

pub keeps_same : (old : Option (List ℕ)) → Keeps old old
keeps_same None = tt
keeps_same (Some xs) = refl

-- where nothing was taken it holds what it held
pub keeps_none : (old new : Option (List ℕ)) → Appends old new [] → Keeps old new
keeps_none None new none = tt
keeps_none (Some xs) None none = absurd none
keeps_none (Some xs) (Some ys) none = none ∙ append-nil xs

-- ---- beginnings

-- a front of the text was printed, and nothing since
pub begins_so : (old mid new : Option (List ℕ)) (text done rest : List ℕ) → text ≡ done ++ rest → Appends old mid done → Keeps mid new → Begins old new text
begins_so old mid new text done rest whole printed kept = record { front = done; rest = rest; whole = whole; printed = appends_still old mid new done printed kept }

-- all of it is a beginning
pub begins_all : (old new : Option (List ℕ)) (text : List ℕ) → Appends old new text → Begins old new text
begins_all old new text all = record { front = text; rest = []; whole = sym (append-nil text); printed = all }

-- it stays one while nothing is printed
pub begins_still : (old mid new : Option (List ℕ)) (text : List ℕ) → Begins old mid text → Keeps mid new → Begins old new text
begins_still old mid new text begun kept = record { front = begun.front; rest = begun.rest; whole = begun.whole; printed = appends_still old mid new begun.front begun.printed kept }

-- and it ends within what came last
pub begins_more : (old mid new : Option (List ℕ)) (bs cs : List ℕ) → Appends old mid bs → Begins mid new cs → Begins old new (bs ++ cs)
begins_more old mid new bs cs first then = record {
  front = bs ++ then.front;
  rest = then.rest;
  whole = ap (λ (l : List ℕ). bs ++ l) then.whole ∙ sym (append_assoc bs then.front then.rest);
  printed = appends_more old mid new bs then.front first then.printed;
}

-- at first nothing is printed
pub none_printed : (input : Input) (editors : ℕ) (old : Option (List ℕ)) → HasPrinted input editors (Appends old old) 0
none_printed input editors old = record {
  answers = [];
  many = refl;
  are = λ k answer is. absurd (cc);
  printed = appends_none old;
}
