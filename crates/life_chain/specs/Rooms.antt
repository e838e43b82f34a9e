-- Room for replies.
use Rattle.std.specs.Prelude.{◌≡◌, ◌≤◌, List, [], ◌∷◌, length, vec_capacity}
use Rattle.std.specs.declared.vec.Vec.{Vec}
use Rattle.event_model.specs.declared.reply.Reply.{Reply}
use Rattle.life_chain.specs.declared.life.Life.{Life}

-- an empty list with room for the replies of a life
abbrev pub IsRoomFor : {A : Type 0} → Vec Reply A → Life → Type 0
IsRoomFor room life = (room.items ≡ []) × (length life.events.items ≤ vec_capacity room)

-- one for each life
abbrev pub HaveRooms : {A : Type 0} → List (Vec Reply A) → List Life → Type 0
HaveRooms [] [] = Unit {0}
HaveRooms [] (life ∷ lives) = ⊥
HaveRooms (room ∷ rooms) [] = ⊥
HaveRooms (room ∷ rooms) (life ∷ lives) = IsRoomFor room life × HaveRooms rooms lives
