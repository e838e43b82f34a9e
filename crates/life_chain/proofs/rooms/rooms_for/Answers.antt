use Rattle.std.proofs.Common.{◌≡◌, ◌++◌, ◌∷◌, ◌+◌, [], List, subst, sym, ap, ◌∙◌, take, arith}
use Rattle.std.proofs.lemmas.List.{take_more}
use Rattle.life_chain.specs.declared.life.Life.{Life}
use Rattle.life_chain.specs.Rooms.{IsRoomFor, HaveRooms}
use Rattle.life_chain.proofs.RoomLemmas.{room_push}
use Rattle.life_chain.proofs.rooms.rooms_for.Goals as goal

pub loop-life-preserved : goal.loop-life-preserved
loop-life-preserved c =
    let i = c.loop-life.life-index in
    let ls : List Life = c.args.lives.now in
    let life : Life = c.life-item.result in
    let room = c.in_ok-with_capacity.field-0 in
    let now_ls : take (i + 1) ls ≡ take i ls ++ life ∷ [] = take_more ls i life c.loop-life-test.true ∙ ap (λ x. take i ls ++ x ∷ []) (sym c.life-item.is) in
    let one : IsRoomFor room life = (c.in_ok-with_capacity.ensures.items, (let a = c.in_ok-with_capacity.ensures.exact in let b = c.len.ensures in let o = life.events.ok in omega arith)) in
    subst (λ l. HaveRooms l (take (i + 1) ls)) (sym c.in_ok-push.ensures.items) (subst (λ (l : List Life). HaveRooms (c.loop-life.rooms.items ++ room ∷ []) l) (sym now_ls) (room_push c.loop-life.rooms.items (take i ls) room life c.loop-life.invariant one))
