use Rattle.live_service.proofs.serving.serve_opened.Given as goal

abbrev pub ghosts-serve_at_board : goal.ghosts-serve_at_board
ghosts-serve_at_board g a = record { opening = a.board.0.opening }
