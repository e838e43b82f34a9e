use Rattle.std.proofs.Common.{◌≡◌, map, take, List, [], ◌∷◌, ◌++◌, ◌+◌, Option, ℕ, sym, ap, ◌∙◌}
use Rattle.std.proofs.lemmas.List.{take_more, map-append}
use Rattle.generations.specs.declared.posting.Posting.{Posting}
use Rattle.generations.specs.Notices.{notice_of}
use Rattle.event_model.specs.Answers.{newest_number}
use Rattle.interleave.specs.Stores.{newer}
use Rattle.interleave.proofs.Parts.{newest_push}
use Rattle.interleave.proofs.stored.newest_in.Goals as goal

pub loop-posting-preserved : goal.loop-posting-preserved
loop-posting-preserved c =
    let i = c.loop-posting.posting-index in
    let ps : List Posting = c.args.postings.now in
    let p : Posting = c.posting-item.result in
    let one : take (i + 1) ps ≡ take i ps ++ p ∷ [] = take_more ps i p c.loop-posting-test.true ∙ ap (λ x. take i ps ++ x ∷ []) (sym c.posting-item.is) in
    let more : map notice_of (take (i + 1) ps) ≡ map notice_of (take i ps) ++ notice_of p ∷ [] = ap (map notice_of) one ∙ map-append notice_of (take i ps) (p ∷ []) in
    c.number_or-newest.ensures ∙ ap (λ (o : Option ℕ). newer o (notice_of p)) c.loop-posting.invariant ∙ sym (newest_push (map notice_of (take i ps)) (notice_of p)) ∙ ap newest_number (sym more)
