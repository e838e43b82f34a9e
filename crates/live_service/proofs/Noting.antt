-- What editors noted, session by session.
use Rattle.std.proofs.Common.{◌≡◌, ◌<◌, ◌≤◌, ◌+◌, ◌∙◌, ℕ, Bool, true, false, List, length, refl, sym, ap, subst, arith}
use Rattle.std.specs.Prelude.{nat_eq, nat_lt, set}
use Rattle.std.specs.Cmp.Lexicographic.{pointwise}
use Rattle.std.proofs.lemmas.Slice.Eq.{slice_eq-Decides}
use Rattle.std.proofs.lemmas.Bool.Decides.{Decides-eqb}
use Rattle.std.proofs.lemmas.Bool.{ltb-false, ltb-true}
use Rattle.std.proofs.lemmas.List.{get_or-set_other, get_or-set_same}
use mathlib.Core.List.{IsPrefix}
use Rattle.logbook.specs.Pages.{Book}
use Rattle.requests.specs.Tickets.{last_of}
use Rattle.requests.specs.declared.request.Request.{Request}
use Rattle.generations.proofs.Prefixes.{prefix_trans}
use Rattle.put_lines.specs.Lines.{Listed, lines_of_session}
use Rattle.put_lines.proofs.Appending.{lines_on}
use Rattle.intake.specs.Editors.{Editing}
use Rattle.intake.specs.Turns.{of}
use Rattle.line_exchange.specs.Inputs.{Input}
use Rattle.line_exchange.specs.declared.messages.Noted.{Noted}
use Rattle.line_exchange.specs.declared.tally.Tally.{Tally}
use Rattle.line_exchange.specs.PutLines.{no_puts}
use Rattle.line_exchange.proofs.NotedLines.{none_each}
use Rattle.line_workers.specs.Submits.{ArePutBy, HasNoted}
use Rattle.live_service.specs.Noting.{AreAllNoted, AreJoined, AreSamePuts}
use Rattle.live_service.specs.declared.ending.Ending.{Ending}
use Rattle.live_service.specs.declared.ending.Joined.{Joined}

-- before any editor came back
pub none_joined : (book : Book) (input : Input) (editors : ℕ) (got : List Request) (joined : Joined) → joined.lines.book ≡ book → joined.count ≡ 0 → joined.puts ≡ no_puts → AreJoined book input editors got joined
none_joined book input editors got joined named none first = record {
  book_is = named;
  each = λ session less. absurd (omega (arith, none, less));
  later = λ session past. ap (λ (ps : List ℕ). last_of ps session) first ∙ none_each session;
}

-- an editor more came back
pub joined_more : (book : Book) (input : Input) (editors : ℕ) (got all : List Request) (e : Editing) (noted : Noted) (old new : Joined) → got ≡ all → AreJoined book input editors got old → HasNoted book input editors e noted → e.put ≡ of e.session all
    → e.session ≡ old.count → e.session < length old.puts → new.count ≡ e.session + 1 → new.puts ≡ set old.puts e.session noted.number → new.lines.book ≡ old.lines.book → IsPrefix old.lines.lines new.lines.lines
    → IsPrefix noted.lines.lines new.lines.lines → AreJoined book input editors got new
joined_more book input editors got all e noted old new same are has put next within count puts named on covers = record {
  book_is = named ∙ are.book_is;
  each = λ session less. by session less (nat_lt session e.session) refl;
  later = λ session past.
      ap (λ (ps : List ℕ). last_of ps session) puts
      ∙ (get_or-set_other old.puts e.session session noted.number 0 (λ here. omega (arith, here, past, count)) ∙ are.later session (omega (arith, past, count, next)));
}
  where
    -- the session of the editor
    own : AreAllNoted input editors new.puts new.lines.lines e.session (of e.session got)
    own = record {
      noted = lines_of_session e.session noted.lines.lines;
      put = subst (λ (rs : List Request). ArePutBy input editors (lines_of_session e.session noted.lines.lines) rs) (put ∙ ap (of e.session) (sym same)) has.put;
      many = ap (λ (ps : List ℕ). last_of ps e.session) puts ∙ (get_or-set_same old.puts e.session noted.number 0 within ∙ has.number);
      first = lines_on e.session noted.lines.lines new.lines.lines covers;
    }

    by : (session : ℕ) → session < new.count → (test : Bool) → nat_lt session e.session ≡ test → AreAllNoted input editors new.puts new.lines.lines session (of session got)
    by session less true test =
        let before : session < e.session = ltb-true session e.session test in
        let was = are.each session (omega (arith, before, next)) in
        record {
          noted = was.noted;
          put = was.put;
          many = ap (λ (ps : List ℕ). last_of ps session) puts ∙ (get_or-set_other old.puts e.session session noted.number 0 (λ here. omega (arith, here, before)) ∙ was.many);
          first = prefix_trans was.noted (lines_of_session session old.lines.lines) (lines_of_session session new.lines.lines) was.first (lines_on session old.lines.lines new.lines.lines on);
        }
    by session less false test =
        let past : e.session ≤ session = ltb-false session e.session test in
        let here : e.session ≡ session = omega (arith, past, less, count) in
        subst (λ (s : ℕ). AreAllNoted input editors new.puts new.lines.lines s (of s got)) here own

-- as many verdicts were told as lines were noted
pub same_puts : (tally : Tally) (ending : Ending) (all : Listed) (same : Bool) → same ≡ pointwise nat_eq ending.puts tally.puts → IsPrefix ending.lines.lines all.lines → IsPrefix tally.lines.lines all.lines → same ≡ true
    → AreSamePuts tally ending
same_puts tally ending all same test noted told is = record { puts = (slice_eq-Decides Decides-eqb ending.puts tally.puts same test).0 is; all = all.lines; told = told; noted = noted }
