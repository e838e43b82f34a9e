use Rattle.std.proofs.Common.{rules, ◌∙◌, sym, inl, inr, []}
use Rattle.value_syntax.specs.declared.words.LandmarkWords.TheVariants.{Greatest}
use Rattle.command_line.specs.Fields.{Landmarks, Ops}
use Rattle.command_line.specs.Asked.{AreOpsGiven, AreWordsGiven, Lacks}
use Rattle.command_line.specs.Readings.{rows_in}
use Rattle.command_line.specs.declared.task.Task.TheVariants.{Check, Copy, Edit, Format, Migrate, Resume, Route, Serve, Show, Tables}
use Rattle.command_line.proofs.Commands.{answered, field_refused}
use Rattle.command_line.proofs.task.task_of.Goals as goal

pub returns-in_ok-nodes : goal.returns-in_ok-nodes
returns-in_ok-nodes c =
    answered c.args.name.now (rows_in c.args.arguments.now) (Format c.in_ok-device.device c.in_ok-nodes.field-0 c.flag-is_new.result) (search rules) tt
    (c.in_ok-device.ensures.found, (c.in_ok-nodes.ensures.found, (c.flag-is_new.ensures.value, tt))) (c.in_ok-device.ensures.same, (c.in_ok-nodes.ensures.same, (λ given is. c.flag-is_new.ensures.value ∙ sym is, tt)))

pub returns-then-eq-2 : goal.returns-then-eq-2
returns-then-eq-2 c =
    answered c.args.name.now (rows_in c.args.arguments.now) (Show c.in_ok-device.device) (search rules) tt
    (c.in_ok-device.ensures.found, tt) (c.in_ok-device.ensures.same, tt)

pub returns-in_ok-change : goal.returns-in_ok-change
returns-in_ok-change c =
    answered c.args.name.now (rows_in c.args.arguments.now) (Edit c.in_ok-device.device c.in_ok-usual.field-0 c.in_ok-optional.field-0 c.in_ok-change.field-0) (search rules) tt
    (c.in_ok-device.ensures.found, (c.in_ok-change.ensures.found, (c.in_ok-usual.ensures.found, (c.in_ok-optional.ensures.found, tt)))) (c.in_ok-device.ensures.same, (c.in_ok-change.ensures.same, (c.in_ok-usual.ensures.same, (c.in_ok-optional.ensures.same, tt))))

pub returns-in_ok-session : goal.returns-in_ok-session
returns-in_ok-session c =
    answered c.args.name.now (rows_in c.args.arguments.now) (Resume c.in_ok-device.device c.in_ok-session.field-0) (search rules) tt
    (c.in_ok-device.ensures.found, (c.in_ok-session.ensures.found, tt)) (c.in_ok-device.ensures.same, (c.in_ok-session.ensures.same, tt))

pub returns-in_ok-words : goal.returns-in_ok-words
returns-in_ok-words c =
    answered c.args.name.now (rows_in c.args.arguments.now) (Route c.in_ok-device.device c.in_ok-pairs.field-0 c.in_ok-words.field-0) (search rules) tt
    (c.in_ok-device.ensures.found, (c.in_ok-pairs.ensures.found, (c.in_ok-words.ensures.found, tt))) (c.in_ok-device.ensures.same, (c.in_ok-pairs.ensures.same, (c.in_ok-words.ensures.same, tt)))

pub returns-in_ok-words-2 : goal.returns-in_ok-words-2
returns-in_ok-words-2 c =
    answered c.args.name.now (rows_in c.args.arguments.now) (Check c.in_ok-device.device c.in_ok-words-2.words) (search rules) tt
    (c.in_ok-device.ensures.found, (c.in_ok-words-2.ensures.found, tt)) (c.in_ok-device.ensures.same, (c.in_ok-words-2.ensures.same, tt))

pub returns-in_ok-text : goal.returns-in_ok-text
returns-in_ok-text c =
    answered c.args.name.now (rows_in c.args.arguments.now) (Migrate c.in_ok-device.device c.in_ok-text.field-0) (search rules) tt
    (c.in_ok-device.ensures.found, (c.in_ok-text.ensures.found, tt)) (c.in_ok-device.ensures.same, (c.in_ok-text.ensures.same, tt))

pub returns-in_ok-text-2 : goal.returns-in_ok-text-2
returns-in_ok-text-2 c =
    answered c.args.name.now (rows_in c.args.arguments.now) (Copy c.in_ok-device.device c.in_ok-text-2.field-0) (search rules) tt
    (c.in_ok-device.ensures.found, (c.in_ok-text-2.ensures.found, tt)) (c.in_ok-device.ensures.same, (c.in_ok-text-2.ensures.same, tt))

pub returns-in_ok-words-3 : goal.returns-in_ok-words-3
returns-in_ok-words-3 c =
    answered c.args.name.now (rows_in c.args.arguments.now) (Serve c.in_ok-device.device c.in_ok-usual-2.field-0 c.in_ok-usual-3.field-0 c.in_ok-usual-4.field-0 c.in_ok-live.field-0 c.in_ok-words-3.field-0) (search (rules, c.if-eq-9.ensures, c.if-eq-9.true)) tt
    (c.in_ok-device.ensures.found, (c.in_ok-words-3.ensures.found, (c.in_ok-usual-2.ensures.found, (c.in_ok-usual-3.ensures.found, (c.in_ok-usual-4.ensures.found, (c.in_ok-live.ensures.found, tt)))))) (c.in_ok-device.ensures.same, (c.in_ok-words-3.ensures.same, (c.in_ok-usual-2.ensures.same, (c.in_ok-usual-3.ensures.same, (c.in_ok-usual-4.ensures.same, (c.in_ok-live.ensures.same, tt))))))

pub returns-in_ok-words-4 : goal.returns-in_ok-words-4
returns-in_ok-words-4 c =
    answered c.args.name.now (rows_in c.args.arguments.now) (Tables c.in_ok-device.device c.in_ok-text-3.field-0 c.in_ok-nodes-2.field-0 c.in_ok-words-4.field-0) (search (rules, c.if-eq-10.ensures, c.if-eq-10.true)) tt
    (c.in_ok-device.ensures.found, (c.in_ok-text-3.ensures.found, (c.in_ok-words-4.ensures.found, (c.in_ok-nodes-2.ensures.found, tt)))) (c.in_ok-device.ensures.same, (c.in_ok-text-3.ensures.same, (c.in_ok-words-4.ensures.same, (c.in_ok-nodes-2.ensures.same, tt))))

pub returns-in_err-change : goal.returns-in_err-change
returns-in_err-change c =
    let rows = rows_in c.args.arguments.now in
    field_refused c.args.name.now rows (AreOpsGiven rows) (Lacks rows Ops) c.from_residual-in_err-change.result c.in_err-change.field-0.0 (Edit c.in_ok-device.device c.in_ok-usual.field-0 c.in_ok-optional.field-0 []) (search rules) c.from_residual-in_err-change.ensures.1 c.in_err-change.ensures.cause
    (λ values each. each.1.0) (λ given. (c.in_ok-device.ensures.found, (given, (c.in_ok-usual.ensures.found, (c.in_ok-optional.ensures.found, tt))))) (λ lacks. inr (inl lacks))

pub returns-in_err-words : goal.returns-in_err-words
returns-in_err-words c =
    let rows = rows_in c.args.arguments.now in
    field_refused c.args.name.now rows (AreWordsGiven rows) (Lacks rows Landmarks) c.from_residual-in_err-words.result c.in_err-words.field-0.0 (Route c.in_ok-device.device c.in_ok-pairs.field-0 Greatest) (search rules) c.from_residual-in_err-words.ensures.1 c.in_err-words.ensures.cause
    (λ values each. each.1.1.0) (λ given. (c.in_ok-device.ensures.found, (c.in_ok-pairs.ensures.found, (given, tt)))) (λ lacks. inr (inr (inl lacks)))

pub returns-in_err-words-2 : goal.returns-in_err-words-2
returns-in_err-words-2 c =
    let rows = rows_in c.args.arguments.now in
    field_refused c.args.name.now rows (AreWordsGiven rows) (Lacks rows Landmarks) c.from_residual-in_err-words-2.result c.in_err-words-2.field-0.0 (Check c.in_ok-device.device Greatest) (search rules) c.from_residual-in_err-words-2.ensures.1 c.in_err-words-2.ensures.cause
    (λ values each. each.1.0) (λ given. (c.in_ok-device.ensures.found, (given, tt))) (λ lacks. inr (inl lacks))

pub returns-in_err-words-3 : goal.returns-in_err-words-3
returns-in_err-words-3 c =
    let rows = rows_in c.args.arguments.now in
    field_refused c.args.name.now rows (AreWordsGiven rows) (Lacks rows Landmarks) c.from_residual-in_err-words-3.result c.in_err-words-3.field-0.0 (Serve c.in_ok-device.device c.in_ok-usual-2.field-0 c.in_ok-usual-3.field-0 c.in_ok-usual-4.field-0 c.in_ok-live.field-0 Greatest) (search (rules, c.if-eq-9.ensures, c.if-eq-9.true)) c.from_residual-in_err-words-3.ensures.1 c.in_err-words-3.ensures.cause
    (λ values each. each.1.0) (λ given. (c.in_ok-device.ensures.found, (given, (c.in_ok-usual-2.ensures.found, (c.in_ok-usual-3.ensures.found, (c.in_ok-usual-4.ensures.found, (c.in_ok-live.ensures.found, tt))))))) (λ lacks. inr (inl lacks))

pub returns-in_err-words-4 : goal.returns-in_err-words-4
returns-in_err-words-4 c =
    let rows = rows_in c.args.arguments.now in
    field_refused c.args.name.now rows (AreWordsGiven rows) (Lacks rows Landmarks) c.from_residual-in_err-words-4.result c.in_err-words-4.field-0.0 (Tables c.in_ok-device.device c.in_ok-text-3.field-0 c.in_ok-nodes-2.field-0 Greatest) (search (rules, c.if-eq-10.ensures, c.if-eq-10.true)) c.from_residual-in_err-words-4.ensures.1 c.in_err-words-4.ensures.cause
    (λ values each. each.1.1.0) (λ given. (c.in_ok-device.ensures.found, (c.in_ok-text-3.ensures.found, (given, (c.in_ok-nodes-2.ensures.found, tt))))) (λ lacks. inr (inr (inl lacks)))
