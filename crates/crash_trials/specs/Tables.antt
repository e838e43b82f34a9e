-- Kinds of trials, and a table of them.
use Rattle.std.specs.Prelude.{◌≡◌, ◌==◌, ◌&&◌, ℕ, Bool, List, ◌++◌, codes, decimal, map}
use Rattle.std.specs.List.{AllByRecursion, Contains, count_by}
use Rattle.std.specs.List.Sorted.{IsStrictlySortedBy}
use Rattle.std.specs.Ordering.{nat_cmp, ordering_then}
use Rattle.std.specs.declared.cmp.Ordering.{Ordering}
use Rattle.crash_trials.specs.declared.kinds.Kind.{Kind}
use Rattle.crash_trials.specs.declared.kinds.KindCount.{KindCount}

-- the order of kinds: by what the life found, then by what was acknowledged, then by what the next opening found
abbrev pub order : Kind → Kind → Ordering
order a b = ordering_then (nat_cmp a.found b.found) (ordering_then (nat_cmp a.acknowledged b.acknowledged) (nat_cmp a.opened b.opened))

-- whether two kinds are the same
abbrev pub is_kind : Kind → Kind → Bool
is_kind a b = (a.found == b.found) && ((a.acknowledged == b.acknowledged) && (a.opened == b.opened))

-- how many of these trials are of this kind
abbrev pub times : Kind → List Kind → ℕ
times kind kinds = count_by (is_kind kind) kinds

-- the kinds of rows
abbrev pub kinds_of : List KindCount → List Kind
kinds_of rows = map (λ row. row.kind) rows

-- A table of trials: its rows ascend, each before all those behind it, each counts exactly the trials of its kind, and each trial's kind has
-- its row. So together they count all trials.
pub record IsTableOf (kinds : List Kind) (rows : List KindCount) : Type 0 where
  pub ascending : IsStrictlySortedBy order (kinds_of rows)
  pub each : AllByRecursion (λ row. row.trials ≡ times row.kind kinds) rows
  pub all : (kind : Kind) → Contains kinds kind → Contains (kinds_of rows) kind

-- the row of a kind
abbrev pub row_of : List Kind → Kind → KindCount
row_of kinds kind = record { kind = kind; trials = times kind kinds }

-- a row as it is printed
abbrev pub count_text : KindCount → List ℕ
count_text row =
    codes "found=" ++ (decimal row.kind.found
    ++ (codes " acknowledged=" ++ (decimal row.kind.acknowledged
    ++ (codes " opened=" ++ (decimal row.kind.opened
    ++ (codes " stops=" ++ decimal row.trials))))))
