use Rattle.std.proofs.Common.{rules, arith, ◌≡◌, ◌++◌, ◌∷◌, ◌+◌, [], List, subst, sym, ap, ◌∙◌, refl, IsTrue, take, drop, Some, None}
use Rattle.std.proofs.lemmas.List.{take_more, drop_more, take-append-drop, take_all}
use Rattle.life_chain.specs.declared.life.Life.{Life}
use Rattle.life_chain.specs.declared.report.LifeReport.{LifeReport}
use Rattle.life_chain.specs.Rooms.{HaveRooms}
use Rattle.life_chain.specs.Lived.{AreLived}
use Rattle.life_chain.proofs.RoomLemmas.{first_room}
use Rattle.life_chain.proofs.LifeLemmas.{one_more, up_to}
use Rattle.life_chain.proofs.chain.lives_in.Goals as goal

pub loop-life-init : goal.loop-life-init
loop-life-init g c = record {
  room = c.requires.rooms;
  spare = let e = c.requires.none in let s = c.requires.spare in search rules;
  model = λ m. m;
  lived = λ m. subst (λ (l : List LifeReport). AreLived g.D.Disk g.C.Crash.by_word c.args.disk [] l None c.args.disk) (sym c.requires.none) refl;
}

pub returns-in-Err : goal.returns-in-Err
returns-in-Err g c model =
    let i = c.loop-life.life-index in
    let ls : List Life = c.args.lives.now in
    let life : Life = c.life-item.result in
    let rest_ls : drop i ls ≡ life ∷ drop (i + 1) ls = drop_more ls i life c.loop-life-test.true ∙ ap (λ x. x ∷ drop (i + 1) ls) (sym c.life-item.is) in
    let whole : take i ls ++ life ∷ drop (i + 1) ls ≡ ls = ap (λ l. take i ls ++ l) (sym rest_ls) ∙ take-append-drop i ls in
    subst (λ (l : List Life). AreLived g.D.Disk g.C.Crash.by_word c.args.disk l c.loop-life.reports.items (Some c.in-Err.refused) c.in-Err.left) whole
    (up_to g.D.Disk g.C.Crash.by_word c.args.disk c.loop-life.disk c.in-Err.left (take i ls) c.loop-life.reports.items life (drop (i + 1) ls) c.in-Err.refused (c.loop-life.invariant.lived model) (c.in-Err.ensures.refused (c.loop-life.invariant.model model)))

pub returns : goal.returns
returns g c model =
    let i = c.loop-life.life-index in
    subst (λ (l : List Life). AreLived g.D.Disk g.C.Crash.by_word c.args.disk l c.loop-life.reports.items None c.loop-life.disk) (take_all i c.args.lives.now (omega arith)) (c.loop-life.invariant.lived model)

pub loop-life-preserved : goal.loop-life-preserved
loop-life-preserved g c =
    let inv = c.loop-life.invariant in
    let one = c.in-Ok.lived in
    let reports = c.loop-life.reports.items in
    let i = c.loop-life.life-index in
    let life : Life = c.life-item.result in
    let ls : List Life = c.args.lives.now in
    let now_ls : take (i + 1) ls ≡ take i ls ++ life ∷ [] = take_more ls i life c.loop-life-test.true ∙ ap (λ x. take i ls ++ x ∷ []) (sym c.life-item.is) in
    let rest_ls : drop i ls ≡ life ∷ drop (i + 1) ls = drop_more ls i life c.loop-life-test.true ∙ ap (λ x. x ∷ drop (i + 1) ls) (sym c.life-item.is) in
    record {
      room =
          let had = subst (λ (l : List Life). HaveRooms c.loop-life.rooms.items l) rest_ls inv.room in
          subst (λ l. HaveRooms l (drop (i + 1) ls)) (sym c.remove-replies.ensures.items) (first_room c.loop-life.rooms.items life (drop (i + 1) ls) c.remove-replies.result had c.remove-replies.ensures.value).1;
      spare = let a = c.add.ensures.len in let b = c.add.ensures.capacity in let d = inv.spare in omega (arith, c.loop-life-test.true);
      model = λ m. subst IsTrue (sym c.in-Ok.ensures.ran.model) (inv.model m);
      lived = λ m. subst (λ (l : List LifeReport). AreLived g.D.Disk g.C.Crash.by_word c.args.disk (take (i + 1) ls) l None c.in-Ok.left) (sym c.add.ensures.items)
          (subst (λ (l : List Life). AreLived g.D.Disk g.C.Crash.by_word c.args.disk l (reports ++ one ∷ []) None c.in-Ok.left) (sym now_ls)
          (one_more g.D.Disk g.C.Crash.by_word c.args.disk c.loop-life.disk c.in-Ok.left (take i ls) reports life one (inv.lived m) (c.in-Ok.ensures.lived (inv.model m))));
    }
