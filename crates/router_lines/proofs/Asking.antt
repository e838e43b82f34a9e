-- What a line that begins with a word asks for.
use Rattle.std.proofs.Common.{◌≡◌, ◌≢◌, inl, inr, eqb, false, ℕ, List, ◌++◌, get_or, drop, Option, refl, sym, ap, subst, arith}
use Rattle.std.proofs.lemmas.Bool.Decides.{nat_tests}
use Rattle.packet_bytes.specs.Layout.{address_size, packet_size}
use Rattle.packet_bytes.specs.Refusals.{address_refusal, packet_refusal}
use Rattle.packet_bytes.specs.Spelling.{SpellsAddress, SpellsPacket}
use Rattle.packet_bytes.specs.declared.wire.WireRefused.{WireRefused}
use Rattle.router_lines.specs.declared.line.Asked.{Asked}
use Rattle.router_lines.specs.declared.line.Asked.TheVariants.{Address, Launch, Hop, Tables, Unread, NotUnderstood}
use Rattle.packet_bytes.specs.Digits.{AreDigitsOf, HasNoBytes}
use Rattle.router_lines.specs.Lines.{Asks, IsAskedIn, IsHop, IsLaunch, IsUnread, address_word, hop_word, launch_word, tables_word}

-- lists that begin otherwise are others
other_front : (a b : List ℕ) → eqb (get_or a 0 0) (get_or b 0 0) ≡ false → a ≡ b → ⊥
other_front a b other same =
    let first : get_or a 0 0 ≡ get_or b 0 0 = ap (λ (l : List ℕ). get_or l 0 0) same in
    grind (arith, nat_tests, first, other)

no_value : {X : Type 0} (size : ℕ) (spells : List ℕ → X → Type 0) (digits : List ℕ) (x : X) → HasNoBytes size digits → AreDigitsOf size spells digits x → ⊥
no_value size spells digits x none are = none.1 are.bytes are.decoded

no_refusal : (size : ℕ) (refusal : List ℕ → Option WireRefused) (digits : List ℕ) (e : WireRefused) → HasNoBytes size digits → IsUnread size refusal digits e → ⊥
no_refusal size refusal digits e none (inl u) = u.1 none.0
no_refusal size refusal digits e none (inr u) = none.1 u.1.0 u.1.1.0

-- no other digits stand behind the word
launch_digits : (digits others : List ℕ) → launch_word ++ digits ≡ launch_word ++ others → digits ≡ others
launch_digits digits others e = ap (λ (l : List ℕ). drop 7 l) e

hop_digits : (digits others : List ℕ) → hop_word ++ digits ≡ hop_word ++ others → digits ≡ others
hop_digits digits others e = ap (λ (l : List ℕ). drop 4 l) e

nothing_to_launch : (digits : List ℕ) → HasNoBytes address_size digits → (asked : Asked) → Asks (launch_word ++ digits) asked → ⊥
nothing_to_launch digits none Address e = other_front (launch_word ++ digits) address_word refl e
nothing_to_launch digits none Tables e = other_front (launch_word ++ digits) tables_word refl e
nothing_to_launch digits none (Launch a) (others, (e, are)) = no_value address_size SpellsAddress digits a none (subst (λ (d : List ℕ). AreDigitsOf address_size SpellsAddress d a) (sym (launch_digits digits others e)) are)
nothing_to_launch digits none (Hop k) (others, (e, are)) = other_front (launch_word ++ digits) (hop_word ++ others) refl e
nothing_to_launch digits none (Unread w) (others, inl u) = no_refusal address_size address_refusal digits w none (subst (λ (d : List ℕ). IsUnread address_size address_refusal d w) (sym (launch_digits digits others u.0)) u.1)
nothing_to_launch digits none (Unread w) (others, inr u) = other_front (launch_word ++ digits) (hop_word ++ others) refl u.0
nothing_to_launch digits none NotUnderstood e = e

nothing_to_hop : (digits : List ℕ) → HasNoBytes packet_size digits → (asked : Asked) → Asks (hop_word ++ digits) asked → ⊥
nothing_to_hop digits none Address e = other_front (hop_word ++ digits) address_word refl e
nothing_to_hop digits none Tables e = other_front (hop_word ++ digits) tables_word refl e
nothing_to_hop digits none (Launch a) (others, (e, are)) = other_front (launch_word ++ others) (hop_word ++ digits) refl (sym e)
nothing_to_hop digits none (Hop k) (others, (e, are)) = no_value packet_size SpellsPacket digits k none (subst (λ (d : List ℕ). AreDigitsOf packet_size SpellsPacket d k) (sym (hop_digits digits others e)) are)
nothing_to_hop digits none (Unread w) (others, inl u) = other_front (launch_word ++ others) (hop_word ++ digits) refl (sym u.0)
nothing_to_hop digits none (Unread w) (others, inr u) = no_refusal packet_size packet_refusal digits w none (subst (λ (d : List ℕ). IsUnread packet_size packet_refusal d w) (sym (hop_digits digits others u.0)) u.1)
nothing_to_hop digits none NotUnderstood e = e

pub launch_asked : (line digits : List ℕ) (asked : Asked) → line ≡ launch_word ++ digits → IsLaunch digits asked → IsAskedIn line asked
launch_asked line digits (Launch a) e is = (digits, (e, is))
launch_asked line digits (Unread w) e is = (digits, inl (e, is))
launch_asked line digits NotUnderstood e is = λ asked asks. nothing_to_launch digits is asked (subst (λ (l : List ℕ). Asks l asked) e asks)
launch_asked line digits asked e is = absurd is

pub hop_asked : (line digits : List ℕ) (asked : Asked) → line ≡ hop_word ++ digits → IsHop digits asked → IsAskedIn line asked
hop_asked line digits (Hop k) e is = (digits, (e, is))
hop_asked line digits (Unread w) e is = (digits, inr (e, is))
hop_asked line digits NotUnderstood e is = λ asked asks. nothing_to_hop digits is asked (subst (λ (l : List ℕ). Asks l asked) e asks)
hop_asked line digits asked e is = absurd is

pub nothing_asked : (line : List ℕ) → line ≢ address_word → line ≢ tables_word → ((rest : List ℕ) → line ≢ launch_word ++ rest) → ((rest : List ℕ) → line ≢ hop_word ++ rest) → (asked : Asked) → Asks line asked → ⊥
nothing_asked line a t l h Address e = a e
nothing_asked line a t l h Tables e = t e
nothing_asked line a t l h (Launch x) (digits, (e, are)) = l digits e
nothing_asked line a t l h (Hop k) (digits, (e, are)) = h digits e
nothing_asked line a t l h (Unread w) (digits, inl u) = l digits u.0
nothing_asked line a t l h (Unread w) (digits, inr u) = h digits u.0
nothing_asked line a t l h NotUnderstood e = e
