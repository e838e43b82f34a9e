use Rattle.schemes.proofs.Basics.PackedEntries.{unpacked_again}
use Rattle.schemes.proofs.entry.Entry.new.Goals as goal

pub returns : goal.returns
returns c =
    let again = unpacked_again c.args.distance c.args.root c.args.parent c.args.tree_record in
    rw (c.unwrap_or.ensures, c.unwrap_or-2.ensures, c.unwrap_or-3.ensures, c.upwards_for.ensures) again
