-- How a label keeps its light ports: in the first places of a list that has room for the most, with zeros behind them.
use Rattle.std.specs.Prelude.{◌≡◌, ℕ, ◌-◌, ◌≤◌, List, ◌++◌, length, replicate, take}
use Rattle.heavy_labels.specs.declared.label.TheConstants.{MOST_LIGHTS}

-- these ports, and zeros behind them
abbrev pub padded : List ℕ → List ℕ
padded ls = ls ++ replicate (MOST_LIGHTS - length ls) 0

-- the first `count` places hold ports, and all behind them zeros
pub record IsPadded (count : ℕ) (ports : List ℕ) : Type 0 where
  pub few : count ≤ MOST_LIGHTS
  pub many : count ≤ length ports
  pub zeros : ports ≡ padded (take count ports)
