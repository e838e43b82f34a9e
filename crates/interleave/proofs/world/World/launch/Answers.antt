use Rattle.std.proofs.Common.{◌≡◌, ℕ, Result, Ok, Err, refl, sym, ap, ◌∙◌, subst}
use Rattle.schemes.specs.declared.packet.Packet.{Packet}
use Rattle.forwarders.specs.declared.refused.Refused.{Refused}
use Rattle.event_model.specs.declared.reply.Reply.TheVariants.{NotRouted}
use Rattle.event_model.specs.Trips.{launch_by}
use Rattle.event_model.specs.Machines.{Machine, board_at}
use Rattle.event_model.specs.Answers.{OrMemory, answer, launch, launch_as, looked, sees}
use Rattle.interleave.specs.WorldWords.{machine_of}
use Rattle.interleave.proofs.Steps.{answered, either, launches}
use Rattle.interleave.proofs.world.World.launch.Goals as goal

pub returns-in-Ok-launch_newest-clause-answers : goal.returns-in-Ok-launch_newest-clause-answers
returns-in-Ok-launch_newest-clause-answers g c =
    let m : Machine = machine_of c.args.self.now in
    let n : Machine = machine_of c.file.new.self in
    let u : ℕ = c.args.from in
    let v : ℕ = c.args.to in
    let at : ℕ = c.args.at in
    let k : Packet = c.in-Ok-launch_newest.packet in
    let seen : c.further-seen.result ≡ sees m at = c.further-seen.ensures in
    let board : c.in-Ok.board ≡ board_at m (sees m at) = c.in-Ok.ensures ∙ ap (board_at m) seen in
    let is : ◌≡◌ {A = Result Packet Refused} (launch_by (board_at m (sees m at)).shelf u v) (Ok k) = ap (λ b. launch_by b.shelf u v) (sym board) ∙ (sym c.launch_newest.ensures ∙ c.in-Ok-launch_newest.is) in
    either (launch m u v at) (launch_as (looked m at) u v (Ok k)) m c.file.result n (launches m u v at (Ok k) is)
    (subst (λ (s : ℕ). OrMemory (launch_as (record m { seen = s }) u v (Ok k)) m c.file.result n) seen c.file.ensures.answers)

pub returns-clause-answers : goal.returns-clause-answers
returns-clause-answers g c =
    let m : Machine = machine_of c.args.self.now in
    let u : ℕ = c.args.from in
    let v : ℕ = c.args.to in
    let at : ℕ = c.args.at in
    let refused : Refused = c.in-Err.refused in
    let seen : c.further-seen.result ≡ sees m at = c.further-seen.ensures in
    let board : c.in-Ok.board ≡ board_at m (sees m at) = c.in-Ok.ensures ∙ ap (board_at m) seen in
    let is : ◌≡◌ {A = Result Packet Refused} (launch_by (board_at m (sees m at)).shelf u v) (Err refused) = ap (λ b. launch_by b.shelf u v) (sym board) ∙ (sym c.launch_newest.ensures ∙ c.in-Err.is) in
    answered (launch m u v at) (answer (NotRouted refused) (looked m at)) m (NotRouted refused) _ (launches m u v at (Err refused) is) refl (ap (λ (s : ℕ). record m { seen = s }) seen)
