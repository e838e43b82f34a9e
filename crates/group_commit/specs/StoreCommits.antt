-- What a commit of requests as one record does to a store, with a roll before it where the journal has no room.
use Rattle.std.specs.Prelude.{◌≡◌, ◌≢◌, ◌⊎◌, ◌<◌, ◌+◌, List, [], length, Result, IsErrOf, IsTrue, OnErr, Some, false, true}
use Rattle.requests.specs.declared.request.Request.{Request}
use Rattle.layout_2.specs.Layout.{worn_limit}
use Rattle.layout_2.specs.State.{after}
use Rattle.checkpoint.specs.declared.store.Store.{Store}
use Rattle.checkpoint.specs.StoreWords.{state_of, view_of, is_down, HasAppended, HasRolled, HasRolledAndAppended, HasRoomFor, IsDurable, IsWornOut, LacksRoomFor}
use Rattle.group_commit.specs.declared.refused.DeskRefused.{DeskRefused}
use Rattle.group_commit.specs.declared.refused.DeskRefused.TheVariants.{Device, Down, Memory, Worn}

-- The requests were committed, or there were none.
pub record HasCommittedAll {D : Type 0} {V : _} (old new : Store D V) (requests : List Request) : Type 0 where
  -- the state is the one after them
  pub state : after (state_of old) requests ≡ Some (state_of new)
  -- where the journal had room, they stand behind the groups of before
  pub appended : requests ≢ [] → HasRoomFor old requests → HasAppended old new requests
  -- where it hadn't, they are the first group after a roll
  pub rolled : requests ≢ [] → LacksRoomFor old requests → HasRolledAndAppended old new requests
  -- where the device keeps the model, a crash now leaves the new state
  pub durable : IsTrue (view_of old).keeps_model → IsDurable new
  -- no call of the device failed
  pub no_failure : (view_of new).failures ≡ (view_of old).failures

-- When they are refused, and what each refusal leaves.
pub record RefusesAll {D : Type 0} {V : _} (old new : Store D V) (requests : List Request) (result : Result (Unit {0}) DeskRefused) : Type 0 where
  -- Down: never, since the store was up
  pub not_down : ¬ (IsErrOf result Down)
  -- Worn: only where the count would pass its limit, or a roll is needed and the epoch stands at its limit
  pub worn : IsErrOf result Worn
      → (requests ≢ []) × ((worn_limit < (state_of old).count + length requests) ⊎ (LacksRoomFor old requests × IsWornOut old))
  -- always in the first case
  pub past_count : requests ≢ [] → worn_limit < (state_of old).count + length requests → IsErrOf result Worn
  -- and always in the second one
  pub past_epoch : requests ≢ [] → LacksRoomFor old requests → IsWornOut old → IsErrOf result Worn
  -- it leaves the whole store
  pub worn_leaves : IsErrOf result Worn → new ≡ old
  -- Memory: the store is as it was, or it has rolled
  pub memory_leaves : IsErrOf result Memory → (new ≡ old) ⊎ (LacksRoomFor old requests × HasRolled old new)
  -- Device: a call of the device failed
  pub device : IsErrOf result Device → (view_of old).failures < (view_of new).failures
  -- and the store is down from now on
  pub lost : IsErrOf result Device → is_down new ≡ true
  -- without it the store stays up
  pub stays_up : ¬ (IsErrOf result Device) → is_down new ≡ false
  -- any refusal leaves the state
  pub state : OnErr result (state_of new ≡ state_of old)
