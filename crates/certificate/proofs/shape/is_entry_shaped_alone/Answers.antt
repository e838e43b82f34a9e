use Rattle.certificate.proofs.shape.is_entry_shaped_alone.Goals as goal

pub is_entry_shaped-requires : goal.is_entry_shaped-requires
is_entry_shaped-requires c = record { ahead = c.nothing.ensures c.args.scheme.now c.args.entry.now.root }
