use Rattle.std.proofs.Common.{inr, subst, sym, ◌≡◌, ℕ}
use Rattle.disk_trait.specs.Disk.{IsSameDevice}
use Rattle.checkpoint.specs.StoreWords.{state_of}
use Rattle.file_commands.specs.Queries.{of_generation}
use Rattle.file_commands.proofs.SchemeAnswering.{only_read}
use Rattle.file_commands.proofs.asking.ask_device.Goals as goal

pub returns-in-Ok : goal.returns-in-Ok
returns-in-Ok g c =
    let store = c.in-Ok.store in
    let opened = c.in-Ok.ensures.opened in
    let found = c.ask-found.result in
    let same = c.count-generation.ensures.same in
    inr (record {
      state = state_of store;
      found = found;
      gives = (c.graph.result, subst (λ (n : ℕ). g.F.FnOnce.post c.args.ask (c.graph.result, (n, tt)) found) same c.ask-found.ensures, c.graph.ensures);
      answered = subst (λ (n : ℕ). c.of_generation.result ≡ of_generation n found) same c.of_generation.ensures;
      one = λ keeps other stands. c.standing_law.ensures (state_of store) other (g.D.Disk.view c.args.disk).content (opened.of_model keeps).stands stands;
      reads = λ keeps. only_read c.args.disk c.into_disk.result store c.into_disk.ensures (opened.of_model keeps).reads;
      ran = subst (λ d. IsSameDevice (g.D.Disk.view c.args.disk) (g.D.Disk.view d)) (sym c.into_disk.ensures) opened.ran;
    })
