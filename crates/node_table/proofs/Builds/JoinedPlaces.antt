-- Two tables joined place by place: the places so far are made of both, the others are as they were.
use Rattle.std.proofs.Common.{◌≡◌, ℕ, ◌<◌, ◌≤◌}

-- below n what stands now is made of both, and from n on it is what stood there; what is left of the second is all from n on
pub record AreJoinedBelow (X Y : Type 0) (f : X → Y → X) (before now : ℕ → X) (next left : ℕ → Y) (n : ℕ) : Type 0 where
  pub done : (x : ℕ) → x < n → now x ≡ f (before x) (next x)
  pub ahead : (x : ℕ) → n ≤ x → now x ≡ before x
  pub rest : (x : ℕ) → n ≤ x → left x ≡ next x
