-- Tables of one generation, by several looks at the board.
use Rattle.std.proofs.Common.{◌≡◌, ◌∙◌, ap, arith, refl, sym, subst, add-one, ℕ, ◌+◌, ◌<◌, List, [], ◌∷◌, ◌++◌, length, append_assoc, max, Option, Some, None}
use Rattle.std.proofs.lemmas.List.{map-append}
use Rattle.graph_edits.specs.Edges.{below}
use Rattle.schemes.specs.declared.parts.Parts.{Parts}
use Rattle.generations.specs.Beginnings.{Beginning, GoesOn, board_after}
use Rattle.generations.specs.Boards.{scheme_of}
use Rattle.generations.specs.declared.reader.Shut.TheVariants as shut
use Rattle.generations.proofs.Sharing.{goes_self}
use Rattle.forwarders.specs.declared.refused.Refused.TheVariants as refused
use Rattle.forwarders.specs.Arrivals.{IsLawfulList, IsPublished}
use Rattle.forwarders.proofs.Published.{found_published, published_there}
use Rattle.packet_ways.proofs.Newest.{published_on}
use Rattle.table_files.specs.declared.totals.Totals.{Totals}
use Rattle.table_files.specs.Files.{Put}
use Rattle.table_files.specs.Tables.{IsTotalOf, file_of, files_of}
use Rattle.table_files.proofs.PutFiles.{none_put, total_push}
use Rattle.live_lines.specs.declared.answer.Answer.{Answer}
use Rattle.live_lines.specs.declared.answer.Answer.TheVariants as answers
use Rattle.line_workers.specs.declared.tabling.Newest.{Newest}
use Rattle.line_workers.specs.declared.tabling.Looked.{Looked}
use Rattle.line_workers.specs.declared.tabling.Looked.TheVariants.{File, Gone, Shut as NoLook, Halted}
use Rattle.line_workers.specs.declared.tabling.Step.TheVariants.{Ended}
use Rattle.line_workers.specs.Tables.{HasGeneration, HasNode, HasPutFirst, HasPutSome, IsLookedBy, IsLookedIn, IsLookedOn, IsNewestOn, IsPutStep, IsTabled}

-- ---- lists that go on

pub node_later : (a b : Beginning) (generation node : ℕ) → GoesOn a b → HasNode a generation node → HasNode b generation node
node_later a b generation node on has = record { scheme = has.scheme; published = published_on a b generation has.scheme on has.published; there = has.there }

-- the newest generation of a shelf was published
pub newest_published : (known : Beginning) (newest : Newest) → IsNewestOn (board_after known).shelf newest → HasGeneration known newest
newest_published known newest is = record { scheme = is.scheme; published = published_there known known newest.generation is.scheme (goes_self known) is.shown; size = is.size }

-- ---- one file

-- what a lawful list's board shows under a number is the one scheme that was published under it
pub one_scheme : (known seen : Beginning) (n : ℕ) (p q : Parts) → GoesOn known seen → IsLawfulList seen → IsPublished known n p → scheme_of n (board_after seen).shelf ≡ Some q → q ≡ p
one_scheme known seen n p q on lawful is shown = found_published seen seen n p q lawful (published_on known seen n p on is) (goes_self seen) shown

pub node_shown : (known seen : Beginning) (generation node : ℕ) (q : Parts) → GoesOn known seen → IsLawfulList seen → HasNode known generation node → scheme_of generation (board_after seen).shelf ≡ Some q → node < q.nodes
node_shown known seen generation node q on lawful has shown =
    subst (λ (p : Parts). node < p.nodes) (sym (one_scheme known seen generation has.scheme q on lawful has.published shown)) has.there

by_one : (known seen : Beginning) (generation : ℕ) (folder : List ℕ) (node : ℕ) (looked : Looked) (q : Parts) → GoesOn known seen → IsLawfulList seen → scheme_of generation (board_after seen).shelf ≡ Some q
    → IsLookedIn q folder node looked → IsLookedBy known seen generation folder node looked
by_one known seen generation folder node (File file) q on lawful shown is = λ p published. is ∙ ap (λ (r : Parts). file_of r folder node) (one_scheme known seen generation p q on lawful published shown)
by_one known seen generation folder node (Halted why) q on lawful shown is =
    λ p published. subst (λ (r : Parts). IsLookedIn r folder node (Halted why)) (one_scheme known seen generation p q on lawful published shown) is
by_one known seen generation folder node Gone q on lawful shown is = absurd is
by_one known seen generation folder node NoLook q on lawful shown is = tt

by_found : (known seen : Beginning) (generation : ℕ) (folder : List ℕ) (node : ℕ) (looked : Looked) (found : Option Parts) → GoesOn known seen → IsLawfulList seen → scheme_of generation (board_after seen).shelf ≡ found
    → IsLookedOn found folder node looked → IsLookedBy known seen generation folder node looked
by_found known seen generation folder node looked (Some q) on lawful shown is = by_one known seen generation folder node looked q on lawful shown is
by_found known seen generation folder node looked None on lawful shown is = subst (λ (l : Looked). IsLookedBy known seen generation folder node l) (sym is) shown

-- what comes of a look is by the one scheme that the list has for the generation
pub looked_by : (known seen : Beginning) (generation : ℕ) (folder : List ℕ) (node : ℕ) (looked : Looked) → GoesOn known seen → IsLawfulList seen
    → IsLookedOn (scheme_of generation (board_after seen).shelf) folder node looked → IsLookedBy known seen generation folder node looked
looked_by known seen generation folder node looked on lawful is = by_found known seen generation folder node looked (scheme_of generation (board_after seen).shelf) on lawful refl is

-- by less that was known it is the same
pub looked_since : (before known seen : Beginning) (generation : ℕ) (folder : List ℕ) (node : ℕ) (looked : Looked) → GoesOn before known → IsLookedBy known seen generation folder node looked
    → IsLookedBy before seen generation folder node looked
looked_since before known seen generation folder node (File file) on is = λ p published. is p (published_on before known generation p on published)
looked_since before known seen generation folder node (Halted why) on is = λ p published. is p (published_on before known generation p on published)
looked_since before known seen generation folder node Gone on is = is
looked_since before known seen generation folder node NoLook on is = is

-- ---- all files

no_total : (totals : Totals) → totals.tables ≡ 0 → totals.bytes ≡ 0 → totals.greatest ≡ 0 → IsTotalOf totals []
no_total totals tables bytes greatest = record { tables = tables; bytes = bytes; greatest = greatest }

-- at first none is put
pub first_put : (known : Beginning) (newest : Newest) (folder : List ℕ) (puts : List Put) (totals : Totals) → HasGeneration known newest → totals.tables ≡ 0 → totals.bytes ≡ 0 → totals.greatest ≡ 0
    → HasPutFirst known newest 0 folder puts puts totals
first_put known newest folder puts totals has tables bytes greatest = record {
  scheme = has.scheme;
  published = has.published;
  size = has.size;
  files = none_put puts;
  totals = no_total totals tables bytes greatest;
}

files_more : (p : Parts) (folder : List ℕ) (count : ℕ) → files_of p folder (below (count + 1)) ≡ files_of p folder (below count) ++ file_of p folder count ∷ []
files_more p folder count = rw add-one (map-append (file_of p folder) (below count) (count ∷ []))

-- then one more
pub next_put : (known later : Beginning) (newest : Newest) (count : ℕ) (folder : List ℕ) (old mid new : List Put) (totals next : Totals) (len : ℕ) → GoesOn known later → HasPutFirst known newest count folder old mid totals
    → ((p : Parts) → IsPublished known newest.generation p → (new ≡ mid ++ file_of p folder count ∷ []) × (len ≡ length (file_of p folder count).bytes))
    → next.tables ≡ totals.tables + 1 → next.bytes ≡ totals.bytes + len → next.greatest ≡ max totals.greatest len → HasPutFirst later newest (count + 1) folder old new next
next_put known later newest count folder old mid new totals next len on has put tables bytes greatest =
    let p = has.scheme in
    let one = put p has.published in
    let file = file_of p folder count in
    let before = files_of p folder (below count) in
    record {
      scheme = p;
      published = published_on known later newest.generation p on has.published;
      size = has.size;
      files = one.0 ∙ ap (λ (puts : List Put). puts ++ file ∷ []) has.files ∙ append_assoc old before (file ∷ []) ∙ ap (λ (puts : List Put). old ++ puts) (sym (files_more p folder count));
      totals = subst (λ (puts : List Put). IsTotalOf next puts) (sym (files_more p folder count))
          (total_push totals next before file has.totals tables (bytes ∙ ap (λ n. totals.bytes + n) one.1) (greatest ∙ ap (λ n. max totals.greatest n) one.1));
    }

-- its node is there
pub next_node : (known : Beginning) (newest : Newest) (count : ℕ) (folder : List ℕ) (old new : List Put) (totals : Totals) → count < newest.nodes → HasPutFirst known newest count folder old new totals
    → HasNode known newest.generation count
next_node known newest count folder old new totals less has = record { scheme = has.scheme; published = has.published; there = omega (arith, has.size, less) }

-- or no more
pub some_put : (known later : Beginning) (newest : Newest) (count : ℕ) (folder : List ℕ) (old mid new : List Put) (totals : Totals) → count < newest.nodes → GoesOn known later → new ≡ mid
    → HasPutFirst known newest count folder old mid totals → HasPutSome later newest folder old new
some_put known later newest count folder old mid new totals less on same has = (
  count,
  totals,
  less,
  record {
    scheme = has.scheme;
    published = published_on known later newest.generation has.scheme on has.published;
    size = has.size;
    files = same ∙ has.files;
    totals = has.totals;
  },
)

-- ---- the answer

-- no file more is put behind an answer
pub ended_tabled : (known later : Beginning) (newest : Newest) (count : ℕ) (folder : List ℕ) (old mid new : List Put) (totals : Totals) (answer : Answer) → count < newest.nodes → GoesOn known later
    → IsPutStep known later newest.generation folder count mid new (Ended answer) → HasPutFirst known newest count folder old mid totals → IsTabled later newest folder old new (Some answer)
ended_tabled known later newest count folder old mid new totals (answers.NotCarried refused.GenerationGone) less on step has = (some_put known later newest count folder old mid new totals less on step.0 has, step.1)
ended_tabled known later newest count folder old mid new totals answers.TablesFailed less on step has = some_put known later newest count folder old mid new totals less on step has
ended_tabled known later newest count folder old mid new totals _ less on step has = absurd step
