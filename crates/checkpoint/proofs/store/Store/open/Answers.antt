use Rattle.std.proofs.Common.{◌∙◌, sym, subst, refl, ℕ, List}
use Rattle.layout_2.specs.Loading.{state_of, stands_for}
use Rattle.layout_2.specs.Refusals.{TellsOf}
use Rattle.layout_2.specs.Standing.{StandsFor}
use Rattle.checkpoint.proofs.store.Store.open.Goals as goal

pub returns-in-Ok-clause-opened : goal.returns-in-Ok-clause-opened
returns-in-Ok-clause-opened g c =
    let l = c.in-Ok.loaded in
    let found = c.in-Ok.ensures.ok in
    record {
      up = refl;
      ran = found.read.ran;
      no_failure = found.read.no_failure;
      of_model = λ model.
          let holds = found.of_model model in
          let reads = found.read.reads model in
          let stands = stands_for l (g.D.Disk.view c.args.disk).content found.parts holds.in_use.stands in
          record {
            stands = stands;
            durable = λ image left. subst (λ (bytes : List ℕ). StandsFor (state_of l) bytes) (sym (holds.settled image left ∙ reads.content)) stands;
            version = holds.this_version;
            reads = reads;
          };
    }

pub returns-in-Err-clause-refused : goal.returns-in-Err-clause-refused
returns-in-Err-clause-refused g c =
    let refused = c.in-Err.ensures.refused in
    let content = (g.D.Disk.view c.args.disk).content in
    record {
      ran = refused.not_read.ran;
      device = refused.not_read.device;
      served = refused.not_read.served;
      of_model = λ model.
          let told = refused.of_model model in
          record {
            stands_for_none = told.refused;
            not_formatted = λ is. subst (λ e. TellsOf e content) is told.tells;
            bad_version = λ is. subst (λ e. TellsOf e content) is told.tells;
            damaged = λ is. subst (λ e. TellsOf e content) is told.tells;
            memory = λ is. subst (λ e. TellsOf e content) is told.tells;
            reads = refused.not_read.reads model;
          };
    }
