-- Where commands have their devices and files, and what a call makes of an output.
use Rattle.std.specs.Prelude.{ℕ, List, Option}
use Rattle.clap.specs.Walk.{Text}
use Rattle.command_output.specs.Printing.{Known, PrintsText}
use Rattle.disk_trait.specs.declared.disk.Disk.{Ghosts}

-- What a command stands on: how its device is seen, which it opened to read and closed again, and what stands in files.
pub record Place (D : Type 0) : Type 1 where
  pub model : Ghosts D
  pub opened : Text → D → Type 0
  pub closed : D → Type 0
  pub stands : Text → Option Text → Type 0

-- An output before a call and after it, and what is known to stand on it.
pub record OutputStep (W : Type 0) : Type 0 where
  pub contents : W → Known
  pub before : W
  pub after : W

-- this text was printed, and nothing else
abbrev pub Prints : {W : Type 0} → OutputStep W → List ℕ → Type 0
Prints out text = PrintsText out.contents out.before out.after text
