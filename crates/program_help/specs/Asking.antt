-- What words ask a program to say of itself, and what it says.
use Rattle.std.specs.Prelude.{◌≡◌, ◌⊎◌, ℕ, List, [], ◌∷◌, Option, Some, None, codes, map, option_map}
use Rattle.std.specs.Borrow.{Bor}
use Rattle.std.specs.String.{string_bytes}
use Rattle.std.specs.declared.string.String.{String}
use Rattle.program_help.specs.Texts.{command_in, command_text, version_text, whole_text}
use Rattle.program_help.specs.declared.asking.Asked.{Asked}
use Rattle.program_help.specs.declared.asking.Asked.TheVariants.{Whole, Of, Version}
use Rattle.program_help.specs.declared.help.Help.{Help}

-- the bytes of words
abbrev pub texts_of : List (Bor (List ℕ)) → List (List ℕ)
texts_of words = map (λ word. word.now) words

-- the word asks for help
abbrev pub IsHelp : List ℕ → Type 0
IsHelp word = (word ≡ codes "help") ⊎ ((word ≡ codes "--help") ⊎ (word ≡ codes "-h"))

-- the word asks for the version
abbrev pub IsVersion : List ℕ → Type 0
IsVersion word = (word ≡ codes "version") ⊎ ((word ≡ codes "--version") ⊎ (word ≡ codes "-V"))

-- what a word alone asks for
abbrev pub IsAskedBy : List ℕ → Option Asked → Type 0
IsAskedBy word None = (IsHelp word ⊎ IsVersion word) → ⊥
IsAskedBy word (Some Whole) = IsHelp word
IsAskedBy word (Some (Of name)) = ⊥
IsAskedBy word (Some Version) = IsVersion word

-- what words ask for: one word, or `help` and the name of a command
abbrev pub IsAskedIn : List (List ℕ) → Option Asked → Type 0
IsAskedIn (word ∷ []) asked = IsAskedBy word asked
IsAskedIn (word ∷ name ∷ []) (Some (Of command)) = (word ≡ codes "help") × (command.now ≡ name)
IsAskedIn (word ∷ name ∷ []) None = word ≡ codes "help" → ⊥
IsAskedIn words None = Unit {0}
IsAskedIn words asked = ⊥

-- the text of what is asked for, if the program has it
abbrev pub text_for : Help → Option Asked → Option (List ℕ)
text_for help None = None
text_for help (Some Whole) = Some (whole_text help)
text_for help (Some (Of name)) = option_map command_text (command_in help.commands.now name.now)
text_for help (Some Version) = Some (version_text help)

-- what is answered to words: the text of what they ask for, or nothing where there is none
pub record IsAnswer {A : Type 0} (help : Help) (words : List (List ℕ)) (answer : Option (String A)) : Type 0 where
  pub asked : Option Asked
  pub is : IsAskedIn words asked
  pub text : option_map string_bytes answer ≡ text_for help asked
