-- Under which session and ticket a request stands.
use Rattle.std.specs.Prelude.{ℕ}
use Rattle.requests.specs.declared.request.Request.{Request}

-- the session and ticket of a request
abbrev pub asked_by : Request → ℕ × ℕ
asked_by request = (request.session, request.ticket)
