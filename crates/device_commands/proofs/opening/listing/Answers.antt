use Rattle.std.specs.String.{string_bytes}
use Rattle.device_commands.specs.Openings.{IsListing}
use Rattle.device_commands.proofs.OneRequest.{asked_answer}
use Rattle.device_commands.proofs.OpenFaults.{not_asked}
use Rattle.device_commands.proofs.opening.listing.Goals as goal

pub returns-in-Ok : goal.returns-in-Ok
returns-in-Ok g c =
    asked_answer (λ state text. IsListing state (string_bytes text)) c.args.disk c.into_disk.result c.in-Ok.store c.listing_of_store.result c.into_disk.ensures c.in-Ok.ensures.opened c.standing_law.ensures c.listing_of_store.ensures.text
    c.listing_of_store.ensures.memory

pub returns-in-Err : goal.returns-in-Err
returns-in-Err g c = not_asked (λ state text. IsListing state (string_bytes text)) _ _ c.in-Err.fault c.in-Err.ensures.refused
