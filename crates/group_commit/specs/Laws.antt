-- What settling is good for.
use Rattle.std.specs.Prelude.{◌≡◌, ◌+◌, ◌++◌, List, [], ◌∷◌, ℕ, length, map, Some}
use Rattle.std.specs.List.{range_with_len}
use Rattle.requests.specs.declared.request.Request.{Request}
use Rattle.requests.specs.Requests.{asked_by}
use Rattle.requests.specs.Tickets.{tickets_after}
use Rattle.layout_2.specs.State.{State, after, asked, AreInTurn}
use Rattle.generations.specs.declared.posting.Mark.{Mark}
use Rattle.generations.specs.declared.posting.Verdict.{Verdict}
use Rattle.generations.specs.declared.posting.Verdict.TheVariants.{Accepted, Refused}
use Rattle.generations.specs.Notices.{told_to, counts_of}
use Rattle.group_commit.specs.Settling.{Settled, settle}
use Rattle.group_commit.specs.Turns.{AreBehind}

-- one settling and another behind it
abbrev pub both : Settled → Settled → Settled
both first second = record { marks = first.marks ++ second.marks; accepted = first.accepted ++ second.accepted; state = second.state }

-- settling of two lists is settling of the one, and of the other from where it led
abbrev pub SettlesInParts : Type 0
SettlesInParts = (state : State) (first second : List Request) → settle state (first ++ second) ≡ both (settle state first) (settle (settle state first).state second)

-- the accepted requests, in order, lead to the state
abbrev pub AcceptedLead : Type 0
AcceptedLead = (state : State) (requests : List Request) → after state (settle state requests).accepted ≡ Some (settle state requests).state

-- the count rises by one with each request that is accepted
abbrev pub CountRises : Type 0
CountRises = (state : State) (requests : List Request) → (settle state requests).state.count ≡ state.count + length (settle state requests).accepted

-- the last tickets go on by the accepted requests, and by no others
abbrev pub TicketsGoOn : Type 0
TicketsGoOn = (state : State) (requests : List Request) → (settle state requests).state.tickets ≡ tickets_after state.tickets (asked (settle state requests).accepted)

-- of requests in turn the accepted ones are in turn
abbrev pub AcceptedInTurn : Type 0
AcceptedInTurn = (state : State) (requests : List Request) → AreInTurn state.tickets requests → AreInTurn state.tickets (settle state requests).accepted

-- requests in turn from last tickets are in turn from any that are behind these, and those after the accepted ones stay behind those after all
abbrev pub TicketsStayBehind : Type 0
TicketsStayBehind = (state : State) (ahead : List ℕ) (requests : List Request) → AreBehind state.tickets ahead → AreInTurn ahead requests
    → AreInTurn state.tickets requests × AreBehind (settle state requests).state.tickets (tickets_after ahead (asked requests))

-- each request has one mark, in their order
abbrev pub OneMarkEach : Type 0
OneMarkEach = (state : State) (requests : List Request) → map told_to (settle state requests).marks ≡ map asked_by requests

-- a request before others, if it is accepted
abbrev pub if_accepted : Verdict → Request → List Request → List Request
if_accepted (Accepted count) request requests = request ∷ requests
if_accepted (Refused op code) request requests = requests

-- the requests that are marked as accepted
abbrev pub marked_accepted : List Request → List Mark → List Request
marked_accepted (request ∷ requests) (mark ∷ marks) = if_accepted mark.verdict request (marked_accepted requests marks)
marked_accepted requests marks = []

-- the accepted requests are those whose marks say so, in their order
abbrev pub AcceptedAsMarked : Type 0
AcceptedAsMarked = (state : State) (requests : List Request) → (settle state requests).accepted ≡ marked_accepted requests (settle state requests).marks

-- the counts go on from the state's, one more for each request that is accepted
abbrev pub CountsGoOn : Type 0
CountsGoOn = (state : State) (requests : List Request) → counts_of (settle state requests).marks ≡ range_with_len (state.count + 1) (length (settle state requests).accepted)
