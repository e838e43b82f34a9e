-- Rooms, one for each life.
use Rattle.std.proofs.Common.{◌≡◌, ◌++◌, List, [], ◌∷◌, sym, subst}
use Rattle.std.specs.Prelude.{slice_index_or, remove}
use Rattle.std.specs.declared.vec.Vec.{Vec}
use Rattle.event_model.specs.declared.reply.Reply.{Reply}
use Rattle.life_chain.specs.declared.life.Life.{Life}
use Rattle.life_chain.specs.Rooms.{IsRoomFor, HaveRooms}

pub room_push : {A : Type 0} → (rooms : List (Vec Reply A)) (lives : List Life) (room : Vec Reply A) (life : Life) → HaveRooms rooms lives → IsRoomFor room life → HaveRooms (rooms ++ room ∷ []) (lives ++ life ∷ [])
room_push [] [] room life h one = (one, tt)
room_push [] (x ∷ xs) room life h one = absurd h
room_push (r ∷ rs) [] room life h one = absurd h
room_push (r ∷ rs) (x ∷ xs) room life h one = (h.0, room_push rs xs room life h.1 one)

-- the first room is that of the first life
pub first_room : {A : Type 0} → (rooms : List (Vec Reply A)) (life : Life) (lives : List Life) (room : Vec Reply A) → HaveRooms rooms (life ∷ lives) → room ≡ slice_index_or rooms 0 room → IsRoomFor room life × HaveRooms (remove rooms 0) lives
first_room [] life lives room h e = absurd h
first_room (r ∷ rs) life lives room h e = (subst (λ (x : Vec Reply _). IsRoomFor x life) (sym e) h.0, h.1)

pub some_room : {A : Type 0} → (rooms : List (Vec Reply A)) (life : Life) (lives : List Life) → HaveRooms rooms (life ∷ lives) → rooms ≡ [] → ⊥
some_room [] life lives h e = h
some_room (r ∷ rs) life lives h e = cc
