-- What a report of a life has, as plain data.
use Rattle.std.specs.Prelude.{List, map, take, drop, Bool, Option}
use Rattle.requests.specs.declared.request.Request.{Request}
use Rattle.layout_2.specs.State.{State, state_with}
use Rattle.generations.specs.declared.posting.Notice.{Notice}
use Rattle.generations.specs.Notices.{notice_of}
use Rattle.event_model.specs.Machines.{Machine}
use Rattle.interleave.specs.Stores.{machine_with}
use Rattle.event_laws.specs.LaterLives.{LifeLists}
use Rattle.life_chain.specs.declared.report.LifeReport.{LifeReport}

-- the state that it opened to
abbrev pub opened_of : LifeReport → State
opened_of report = state_with report.count report.graph report.tickets

-- the requests that the committer took
abbrev pub taken_of : LifeReport → List Request
taken_of report = take report.stored.taken report.stored.asked.items

-- the requests that it left in the queue
abbrev pub waiting_of : LifeReport → List Request
waiting_of report = drop report.stored.taken report.stored.asked.items

-- what was posted
abbrev pub posted_of : LifeReport → List Notice
posted_of report = map notice_of report.stored.postings.items

-- the machine at the end, with what was due then, the store's state then, and whether it was down
abbrev pub ended_with : LifeReport → Option Notice → State → Bool → Machine
ended_with report due state down = machine_with report.stored due state down

-- what tickets have to do with
abbrev pub life_of : LifeReport → LifeLists
life_of report = record { opened = opened_of report; taken = taken_of report; waiting = waiting_of report; done = report.stored.done; posted = posted_of report }
