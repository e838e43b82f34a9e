use Rattle.std.proofs.Common.{arith, rules, ◌∙◌, ◌+◌, [], IsTrue, refl, subst}
use Rattle.disk_trait.specs.Disk.{started}
use Rattle.layout_2.specs.Standing.{StandsFor}
use Rattle.layout_reader.specs.Heads.{other}
use Rattle.checkpoint.specs.Kept.{kept_stands}
use Rattle.checkpoint.specs.StoreWords.{state_of, view_of, stands_now}
use Rattle.layout_reader.proofs.ReadLemmas.{still}
use Rattle.checkpoint.proofs.Rolls.{kept_rolled, stands_closing, stands_publishing}
use Rattle.checkpoint.proofs.SameStore.{same_store}
use Rattle.checkpoint.proofs.store.Store.roll.Goals as goal

pub returns-in-Err-clause-refused : goal.returns-in-Err-clause-refused
returns-in-Err-clause-refused g c = record {
  down = search rules;
  worn = search rules;
  device = search rules;
  lost = search rules;
  stays_up = search rules;
  untouched = λ _ _. same_store _ c.args.self.now refl refl refl refl refl refl refl refl refl refl refl refl;
}

pub returns-then-self-ge-WORN_LIMIT-clause-any_moment : goal.returns-then-self-ge-WORN_LIMIT-clause-any_moment
returns-then-self-ge-WORN_LIMIT-clause-any_moment g c model up = started (view_of c.args.self.now) (StandsFor (state_of c.args.self.now)) (stands_now c.args.self.now model up)

pub returns-in-Err-clause-any_moment : goal.returns-in-Err-clause-any_moment
returns-in-Err-clause-any_moment g c model up = started (view_of c.args.self.now) (StandsFor (state_of c.args.self.now)) (stands_now c.args.self.now model up)

pub returns-in-Err-close_open-clause-any_moment : goal.returns-in-Err-close_open-clause-any_moment
returns-in-Err-close_open-clause-any_moment g c model up =
    stands_closing c.args.self.now (g.D.Disk.view c.close_open.new.disk) model up (c.close_open.ensures.any_moment model)

pub returns-in-Err-publish-clause-any_moment : goal.returns-in-Err-publish-clause-any_moment
returns-in-Err-publish-clause-any_moment g c model up =
    stands_publishing c.args.self.now (g.D.Disk.view c.close_open.new.disk) model up (c.close_open.ensures.any_moment model) (g.D.Disk.view c.publish.new.disk) c.deref.result.now (λ lawful. c.deref.ensures.value ∙ c.in-Ok.ensures.text lawful) (omega (arith, c.if-self-ge-WORN_LIMIT.false))
    (c.in-Ok-close_open.ensures.ok model)
    (c.publish.ensures.any_moment (still (view_of c.args.self.now) (g.D.Disk.view c.close_open.new.disk) c.close_open.ensures.ran model))

pub returns-clause-any_moment : goal.returns-clause-any_moment
returns-clause-any_moment g c model up =
    stands_publishing c.args.self.now (g.D.Disk.view c.close_open.new.disk) model up (c.close_open.ensures.any_moment model) (g.D.Disk.view c.publish.new.disk) c.deref.result.now (λ lawful. c.deref.ensures.value ∙ c.in-Ok.ensures.text lawful) (omega (arith, c.if-self-ge-WORN_LIMIT.false))
    (c.in-Ok-close_open.ensures.ok model)
    (c.publish.ensures.any_moment (still (view_of c.args.self.now) (g.D.Disk.view c.close_open.new.disk) c.close_open.ensures.ran model))

pub invariant_of-self-2-clause-kept : goal.invariant_of-self-2-clause-kept
invariant_of-self-2-clause-kept g c model_new up =
    let v1 = g.D.Disk.view c.close_open.new.disk in
    let model1 : IsTrue v1.keeps_model = subst IsTrue c.publish.ensures.ran.model model_new in
    let model : IsTrue (view_of c.args.self.now).keeps_model = subst IsTrue c.close_open.ensures.ran.model model1 in
    let kept = kept_rolled c.args.self.now v1 model c.if-self.false (c.close_open.ensures.any_moment model) (g.D.Disk.view c.publish.new.disk) c.deref.result.now (λ lawful. c.deref.ensures.value ∙ c.in-Ok.ensures.text lawful) (omega (arith, c.if-self-ge-WORN_LIMIT.false))
    (c.in-Ok-close_open.ensures.ok model)
    (c.in-Ok-publish.ensures.ok model1) in
    rw (c.of.ensures, c.of-2.ensures, c.of-3.ensures, c.fresh-self.ensures) kept

pub returns-clause-ok : goal.returns-clause-ok
returns-clause-ok g c =
    let s = c.args.self.now in
    let v1 = g.D.Disk.view c.close_open.new.disk in
    let v2 = g.D.Disk.view c.publish.new.disk in
    record {
      rolled = search rules;
      durable = λ model. kept_stands v2 (other s.slot) (s.epoch + 1) 1 (state_of s) (state_of s) [] (omega arith) s.fits
          (kept_rolled s v1 model c.if-self.false (c.close_open.ensures.any_moment model) v2 c.deref.result.now (λ lawful. c.deref.ensures.value ∙ c.in-Ok.ensures.text lawful) (omega (arith, c.if-self-ge-WORN_LIMIT.false))
          (c.in-Ok-close_open.ensures.ok model) (c.in-Ok-publish.ensures.ok (still (view_of s) v1 c.close_open.ensures.ran model)));
      no_failure = search rules;
    }
