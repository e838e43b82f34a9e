use Rattle.line_exchange.specs.Inputs.{Bytes}
use Rattle.live_service.proofs.serve.serve_live.Given as goal

abbrev pub ghosts-serve_stream : goal.ghosts-serve_stream
ghosts-serve_stream g a = record { input = Bytes (g.S.Read.remaining a.input.0); editors = a.opened.config.service.editors; book = a.input.1.book }
