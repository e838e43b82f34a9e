use Rattle.std.proofs.Common.{List, [], ap, sym, ◌∙◌}
use Rattle.std.specs.Prelude.{is_some}
use Rattle.group_commit.specs.DeskWords.{store_of as desk_store, held_of as desk_held}
use Rattle.committer.specs.Outboxes.{Outgoing}
use Rattle.committer.proofs.Logs.{tied_new}
use Rattle.checkpoint.specs.StoreWords.{state_of, is_down}
use Rattle.generations.specs.declared.posting.Notice.{Notice}
use Rattle.committer.proofs.Crashing.{up_leaves}
use Rattle.committer.proofs.Leading.{led_first}
use Rattle.committer.proofs.Listings.{begun_listed}
use Rattle.committer.proofs.committer.Committer.new.Goals as goal

pub invariant_of-result : goal.invariant_of-result
invariant_of-result g c = record {
  at_outbox = ap is_some c.requires.due;
  same_starts = c.requires.taker_starts ∙ sym (ap (λ (o : Outgoing). o.opening.starts) c.new-outbox.ensures ∙ c.requires.board_starts);
  tied = tied_new c.new-outbox.result c.args.writer.opening c.args.writer.posted _ _ _ _ c.new-outbox.ensures c.requires.posted c.requires.board_count c.requires.board_starts c.requires.held c.requires.taken c.requires.up;
  led = led_first _ (desk_held c.args.desk) c.args.taker.got (state_of (desk_store c.args.desk)) c.requires.held c.requires.taken (sym (ap state_of (c.of-begun.ensures ∙ c.store.ensures)));
  whole = up_leaves (desk_store c.args.desk) (desk_held c.args.desk) c.requires.up;
}

pub returns-clause-listed : goal.returns-clause-listed
returns-clause-listed g c builds =
    begun_listed (state_of (desk_store c.args.desk)) c.new-outbox.result c.args.writer.opening (desk_held c.args.desk) c.args.taker.got (is_down (desk_store c.args.desk))
    (c.new-outbox.ensures ∙ ap (λ (l : List Notice). record { opening = c.args.writer.opening; posted = l; due = [] }) c.requires.posted) c.requires.board_starts c.requires.board_count c.requires.held c.requires.taken
