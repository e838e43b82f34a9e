-- What words ask for.
use Rattle.std.proofs.Common.{◌≡◌, inl, inr, ◌<◌, ◌^◌, ◌∷◌, [], ℕ, zero, suc, Bor, IsTrue, List, All, Option, Some, None, codes, decimal, get_or, length, map, refl, sym, ap, subst, ◌∙◌, arith}
use Rattle.std.specs.Prelude.{◌↔◌, Bool, true, false, IfOk, Result, Ok, Err}
use Rattle.std.specs.Str.{IsUtf8}
use Rattle.std.specs.String.{string_bytes}
use Rattle.std.proofs.lemmas.Fmt.{decimal_injective, decimal_is_IsNumeral}
use Rattle.std.proofs.lemmas.List.Elements.{All-head, All-tail}
use Rattle.std.proofs.lemmas.Str.Parse.{digit_at}
use Rattle.graph_edits.specs.declared.edits.Op.{Op}
use Rattle.live_lines.specs.declared.asked.Asked.{Asked}
use Rattle.live_lines.specs.declared.asked.Asked.TheVariants.{Edit, Resume, Route, Address, Tables, Backup, NoSession, NotOps, NotUnderstood}
use Rattle.live_lines.specs.declared.asked.Named.TheVariants.{Unedited}
use Rattle.value_syntax.specs.OpText.{Fits, op_text}
use Rattle.value_syntax.specs.Reading.{texts_of}
use Rattle.value_syntax.specs.Scripts.{IsChange, words_of}
use Rattle.live_lines.specs.declared.words.Word.{Word}
use Rattle.live_lines.specs.declared.words.Word.TheVariants as word
use Rattle.live_lines.specs.Lines.{AddressAsks, Asks, AsksBehind, AsksJust, EditAsks, IsFolder, IsNamed, IsOp, IsTicket, LacksOps, NoSessionAsks, NodeAsks, NotOpsAsks, ResumeAsks, RouteAsks, TablesAsks, BackupAsks, WordsAsk, edit_words, ticket_word, word_text}

-- no number is written as `-`
no_dash : (n : ℕ) → n < 2 ^ 64 → decimal n ≡ codes "-" → ⊥
no_dash n small is =
    let some : 0 < length (decimal n) = omega (arith, ap (λ (xs : List ℕ). length xs) is) in
    let range = digit_at (decimal n) 0 (decimal_is_IsNumeral n small).0.1 some in
    let first : get_or (decimal n) 0 0 ≡ 45 = ap (λ (xs : List ℕ). get_or xs 0 0) is in
    omega (arith, range.0, range.1, first)

-- `-` is the ticket that isn't named
pub dash_alone : (text : List ℕ) → text ≡ codes "-" → (ticket : Option ℕ) → IsTicket ticket → text ≡ ticket_word ticket → ◌≡◌ {A = Option (Option ℕ)} (Some None) (Some ticket)
dash_alone text dash None is written = refl
dash_alone text dash (Some n) is written = absurd (no_dash n (omega (arith, is.1)) (sym written ∙ dash))

-- ---- ops

-- the place that no text stands at
abbrev pub nowhere : Bor (List ℕ)
nowhere = record { ref_ptr = (0, 0); now = [] }

-- each word of a list of ops is one
pub part_at : (words : List (Bor (List ℕ))) (i : ℕ) (d : Bor (List ℕ)) → i < length words → All IsOp (texts_of words) → IsOp (get_or words i d).now
part_at [] i d lt all = absurd (omega arith)
part_at (w ∷ ws) zero d lt all = All-head IsOp w.now (texts_of ws) all
part_at (w ∷ ws) (suc i) d lt all = part_at ws i d (omega arith) (All-tail IsOp w.now (texts_of ws) all)

-- a word that isn't read as an op is none
pub no_op : (word : List ℕ) (found : Option Op) → ((op : Op) → Fits op → word ≡ op_text op → found ≡ Some op) → ((op : Op) → found ≡ Some op → ⊥) → IsOp word → ⊥
no_op word found only none (op, fits, is) = none op (only op fits is)

pub nothing_lacks : (words : List (List ℕ)) → words ≡ [] → IsTrue false ↔ LacksOps words
nothing_lacks words empty = (λ f. absurd cc, λ l. absurd (let e : [] ≡ ticket_word l.ticket ∷ l.others = sym empty ∙ l.written in cc))

pub no_ticket_lacks : (words ops : List (List ℕ)) (text : List ℕ) → words ≡ text ∷ ops → ((ticket : Option ℕ) → IsTicket ticket → text ≡ ticket_word ticket → ⊥) → IsTrue false ↔ LacksOps words
no_ticket_lacks words ops text parts none = (
  λ f. absurd cc,
  λ l.
      absurd
      (let both : text ∷ ops ≡ ticket_word l.ticket ∷ l.others = sym parts ∙ l.written in
      let front : text ≡ ticket_word l.ticket = cc in
      none l.ticket l.named front),
)

pub ops_lack_none : (words ops : List (List ℕ)) (ticket : Option ℕ) (are : Bool) → words ≡ ticket_word ticket ∷ ops → (IsTrue are ↔ All IsOp ops) → IsTrue are → IsTrue false ↔ LacksOps words
ops_lack_none words ops ticket are parts test sure = (
  λ f. absurd cc,
  λ l.
      absurd
      (let both : ticket_word ticket ∷ ops ≡ ticket_word l.ticket ∷ l.others = sym parts ∙ l.written in
      let behind : ops ≡ l.others = cc in
      l.none (subst (λ (ws : List (List ℕ)). All IsOp ws) behind (test.0 sure))),
)

pub others_lack : (words ops : List (List ℕ)) (ticket : Option ℕ) (are : Bool) → words ≡ ticket_word ticket ∷ ops → IsTicket ticket → (IsTrue are ↔ All IsOp ops) → (IsTrue are → ⊥) → IsTrue true ↔ LacksOps words
others_lack words ops ticket are parts named test not = (
  λ t. record { ticket = ticket; others = ops; written = parts; named = named; none = λ all. not (test.1 all) },
  λ l. refl,
)

-- ---- behind the first word

-- one number of 64 bits is written so
one_number : (m n : ℕ) (word : List ℕ) → m < 2 ^ 64 → n < 2 ^ 64 → word ≡ decimal m → word ≡ decimal n → m ≡ n
one_number m n word small less is same = decimal_injective m n small less (sym is ∙ same)

-- a session that has an editor isn't one that has none
not_none : (editors session : ℕ) (words others : List (List ℕ)) (word : List ℕ) (asked : Asked) → session < 2 ^ 64 → words ≡ word ∷ others → word ≡ decimal session → session < editors → NoSessionAsks editors words asked → ⊥
not_none editors session words others word asked small parts is editor a =
    let both : word ∷ others ≡ decimal a.session ∷ a.others = sym parts ∙ a.written in
    let front : word ≡ decimal a.session = cc in
    let same = one_number session a.session word small a.small is front in
    omega (arith, same, editor, a.none)

-- nothing is named by a word that is no number
no_number : (editors : ℕ) (words others : List (List ℕ)) (word : List ℕ) (asked : Asked) → words ≡ word ∷ others → ((session : ℕ) → session < 2 ^ 64 → word ≡ decimal session → ⊥) → NoSessionAsks editors words asked → ⊥
no_number editors words others word asked parts none a =
    let both : word ∷ others ≡ decimal a.session ∷ a.others = sym parts ∙ a.written in
    let front : word ≡ decimal a.session = cc in
    none a.session a.small front

pub edit_asked : (editors : ℕ) (words rest : List (List ℕ)) (session : ℕ) (ticket : Option ℕ) (change : List Op) → words ≡ decimal session ∷ rest → session < editors
    → rest ≡ ticket_word ticket ∷ map op_text change → IsTicket ticket → IsChange change → AsksJust (AsksBehind editors word.Edit words) (Edit session ticket change)
edit_asked editors words rest session ticket change parts editor behind named ops =
    let written : words ≡ edit_words session ticket change = parts ∙ ap (λ (ws : List (List ℕ)). decimal session ∷ ws) behind in
    inl (inl (record { session = session; ticket = ticket; change = change; written = written; may = record { editor = editor; named = named; ops = ops }; same = refl }))

pub edit_of_none : (editors : ℕ) (words rest : List (List ℕ)) (first : List ℕ) → words ≡ first ∷ rest → IsNamed first editors Unedited → AsksJust (AsksBehind editors word.Edit words) NoSession
edit_of_none editors words rest first parts (session, is, none, small) =
    inl (inr (inl (record { session = session; others = rest; written = parts ∙ ap (λ (w : List ℕ). w ∷ rest) is; none = none; small = small; same = refl })))

pub edit_of_others : (editors : ℕ) (words rest : List (List ℕ)) (session : ℕ) (lacks : Bool) → words ≡ decimal session ∷ rest → session < editors → (IsTrue lacks ↔ LacksOps rest) → IsTrue lacks → AsksJust (AsksBehind editors word.Edit words) NotOps
edit_of_others editors words rest session lacks parts editor test sure =
    inl (inr (inr (record { session = session; others = rest; written = parts; editor = editor; lacks = test.0 sure; same = refl })))

-- none of what may be asked for behind `edit`
none_behind : (editors : ℕ) (words : List (List ℕ)) (other : Asked) → (EditAsks editors words other → ⊥) → (NoSessionAsks editors words other → ⊥) → (NotOpsAsks editors words other → ⊥) → AsksBehind editors word.Edit words other → ⊥
none_behind editors words other edit session ops (inl a) = edit a
none_behind editors words other edit session ops (inr (inl a)) = session a
none_behind editors words other edit session ops (inr (inr a)) = ops a

pub nothing_edited : (editors : ℕ) (words : List (List ℕ)) → words ≡ [] → AsksJust (AsksBehind editors word.Edit words) NotUnderstood
nothing_edited editors words empty =
    inr (
      refl,
      λ other.
          none_behind editors words other
          (λ a. let e : [] ≡ edit_words a.session a.ticket a.change = sym empty ∙ a.written in cc)
          (λ a. let e : [] ≡ decimal a.session ∷ a.others = sym empty ∙ a.written in cc)
          (λ a. let e : [] ≡ decimal a.session ∷ a.others = sym empty ∙ a.written in cc),
    )

pub no_edit : (editors : ℕ) (words rest : List (List ℕ)) (first : List ℕ) → editors < 2 ^ 64 → words ≡ first ∷ rest → ((session : ℕ) → session < 2 ^ 64 → first ≡ decimal session → ⊥) → AsksJust (AsksBehind editors word.Edit words) NotUnderstood
no_edit editors words rest first few parts none =
    inr (
      refl,
      λ other.
          none_behind editors words other
          (λ a.
          let both : first ∷ rest ≡ edit_words a.session a.ticket a.change = sym parts ∙ a.written in
          let front : first ≡ decimal a.session = cc in
          none a.session (omega (arith, few, a.may.editor)) front)
          (no_number editors words rest first other parts none)
          (λ a.
          let both : first ∷ rest ≡ decimal a.session ∷ a.others = sym parts ∙ a.written in
          let front : first ≡ decimal a.session = cc in
          none a.session (omega (arith, few, a.editor)) front),
    )

pub no_change : (editors : ℕ) (words rest : List (List ℕ)) (session : ℕ) (lacks : Bool) → session < 2 ^ 64 → words ≡ decimal session ∷ rest → session < editors
    → ((ticket : Option ℕ) (change : List Op) → IsTicket ticket → IsChange change → rest ≡ ticket_word ticket ∷ map op_text change → ⊥)
    → (IsTrue lacks ↔ LacksOps rest) → (IsTrue lacks → ⊥) → AsksJust (AsksBehind editors word.Edit words) NotUnderstood
no_change editors words rest session lacks small parts editor none test denied =
    inr (
      refl,
      λ other.
          none_behind editors words other
          (λ a.
          let both : decimal session ∷ rest ≡ edit_words a.session a.ticket a.change = sym parts ∙ a.written in
          let behind : rest ≡ ticket_word a.ticket ∷ map op_text a.change = cc in
          none a.ticket a.change a.may.named a.may.ops behind)
          (not_none editors session words rest (decimal session) other small parts refl editor)
          (λ a.
          let both : decimal session ∷ rest ≡ decimal a.session ∷ a.others = sym parts ∙ a.written in
          let behind : a.others ≡ rest = cc in
          denied (test.1 (subst (λ (ws : List (List ℕ)). LacksOps ws) behind a.lacks))),
    )

pub resume_of_none : (editors : ℕ) (words rest : List (List ℕ)) (first : List ℕ) → words ≡ first ∷ rest → IsNamed first editors Unedited → AsksJust (AsksBehind editors word.Resume words) NoSession
resume_of_none editors words rest first parts (session, is, none, small) =
    inl (inr (record { session = session; others = rest; written = parts ∙ ap (λ (w : List ℕ). w ∷ rest) is; none = none; small = small; same = refl }))

-- neither of what may be asked for behind `resume`
neither_behind : (editors : ℕ) (words : List (List ℕ)) (other : Asked) → (ResumeAsks editors words other → ⊥) → (NoSessionAsks editors words other → ⊥) → AsksBehind editors word.Resume words other → ⊥
neither_behind editors words other resume session (inl a) = resume a
neither_behind editors words other resume session (inr a) = session a

pub nothing_resumed : (editors : ℕ) (words : List (List ℕ)) → words ≡ [] → AsksJust (AsksBehind editors word.Resume words) NotUnderstood
nothing_resumed editors words empty =
    inr (
      refl,
      λ other.
          neither_behind editors words other
          (λ a. let e : [] ≡ decimal a.session ∷ [] = sym empty ∙ a.written in cc)
          (λ a. let e : [] ≡ decimal a.session ∷ a.others = sym empty ∙ a.written in cc),
    )

pub no_resume : (editors : ℕ) (words rest : List (List ℕ)) (first : List ℕ) → editors < 2 ^ 64 → words ≡ first ∷ rest → ((session : ℕ) → session < 2 ^ 64 → first ≡ decimal session → ⊥) → AsksJust (AsksBehind editors word.Resume words) NotUnderstood
no_resume editors words rest first few parts none =
    inr (
      refl,
      λ other.
          neither_behind editors words other
          (λ a.
          let both : first ∷ rest ≡ decimal a.session ∷ [] = sym parts ∙ a.written in
          let front : first ≡ decimal a.session = cc in
          none a.session (omega (arith, few, a.editor)) front)
          (no_number editors words rest first other parts none),
    )

pub resume_alone : (editors : ℕ) (words rest : List (List ℕ)) (session : ℕ) (asked : Asked) → session < 2 ^ 64 → words ≡ decimal session ∷ rest → session < editors
    → (rest ≡ [] → asked ≡ Resume session) → ((rest ≡ [] → ⊥) → asked ≡ NotUnderstood) → AsksJust (AsksBehind editors word.Resume words) asked
resume_alone editors words [] session asked small parts editor empty others =
    inl (inl (record { session = session; written = parts; editor = editor; same = empty refl }))
resume_alone editors words (w ∷ ws) session asked small parts editor empty others =
    inr (
      others (λ e. cc),
      λ other.
          neither_behind editors words other
          (λ a.
          let both : decimal session ∷ w ∷ ws ≡ decimal a.session ∷ [] = sym parts ∙ a.written in
          cc)
          (not_none editors session words (w ∷ ws) (decimal session) other small parts refl editor),
    )

pub route_asked : (words : List (List ℕ)) (from to : ℕ) → words ≡ decimal from ∷ decimal to ∷ [] → (from < 2 ^ 16) × (to < 2 ^ 16) → AsksJust (RouteAsks words) (Route from to)
route_asked words from to written fit = inl (record { from = from; to = to; written = written; fit = fit; same = refl })

pub no_route : (words : List (List ℕ)) → ((from to : ℕ) → from < 2 ^ 16 → to < 2 ^ 16 → words ≡ decimal from ∷ decimal to ∷ [] → ⊥) → AsksJust (RouteAsks words) NotUnderstood
no_route words none = inr (refl, λ other asks. none asks.from asks.to asks.fit.0 asks.fit.1 asks.written)

pub address_asked : (words : List (List ℕ)) (node : ℕ) → words ≡ decimal node ∷ [] → node < 2 ^ 16 → AsksJust (AddressAsks words) (Address node)
address_asked words node written fits = inl (record { node = node; written = written; fits = fits; same = refl })

pub no_address : (words : List (List ℕ)) → ((node : ℕ) → node < 2 ^ 16 → words ≡ decimal node ∷ [] → ⊥) → AsksJust (AddressAsks words) NotUnderstood
no_address words none = inr (refl, λ other asks. none asks.node asks.fits asks.written)

-- what a node is asked for by digits is asked for by words that are the node and the digits
pub node_asked : (Behind : ℕ → List ℕ → Asked → Type 0) (words : List (List ℕ)) (node : ℕ) (digits : List ℕ) (asked : Asked) → words ≡ decimal node ∷ digits ∷ [] → node < 2 ^ 16
    → ((n : ℕ) (ds : List ℕ) → n < 2 ^ 16 → words ≡ decimal n ∷ ds ∷ [] → (node ≡ n) × (digits ≡ ds)) → AsksJust (Behind node digits) asked → AsksJust (NodeAsks Behind words) asked
node_asked Behind words node digits asked written fits one (inl asks) = inl (record { node = node; digits = digits; written = written; fits = fits; asks = asks })
node_asked Behind words node digits asked written fits one (inr none) =
    inr (
      none.0,
      λ other asks.
          let same = one asks.node asks.digits asks.fits asks.written in
          none.1 other (subst (λ (ds : List ℕ). Behind node ds other) (sym same.1) (subst (λ (n : ℕ). Behind n asks.digits other) (sym same.0) asks.asks)),
    )

pub no_node : (Behind : ℕ → List ℕ → Asked → Type 0) (words : List (List ℕ)) → ((node : ℕ) (digits : List ℕ) → node < 2 ^ 16 → words ≡ decimal node ∷ digits ∷ [] → ⊥) → AsksJust (NodeAsks Behind words) NotUnderstood
no_node Behind words none = inr (refl, λ other asks. none asks.node asks.digits asks.fits asks.written)

pub tables_asked : (words : List (List ℕ)) (word : List ℕ) (folder : _) → words ≡ word ∷ [] → IsFolder word → string_bytes folder ≡ word → AsksJust (TablesAsks words) (Tables folder)
tables_asked words word folder written is same = inl (written ∙ ap (λ (w : List ℕ). w ∷ []) (sym same), subst (λ (w : List ℕ). IsFolder w) (sym same) is)

no_folder : (words : List (List ℕ)) → ((word : List ℕ) → IsFolder word → words ≡ word ∷ [] → ⊥) → (other : Asked) → TablesAsks words other → ⊥
no_folder words none (Tables folder) asks = none (string_bytes folder) asks.1 asks.0
no_folder words none _ asks = asks

pub no_tables : (words : List (List ℕ)) → ((word : List ℕ) → IsFolder word → words ≡ word ∷ [] → ⊥) → AsksJust (TablesAsks words) NotUnderstood
no_tables words none = inr (refl, λ other asks. no_folder words none other asks)

pub backup_asked : (words : List (List ℕ)) (word : List ℕ) (file : _) → words ≡ word ∷ [] → IsFolder word → string_bytes file ≡ word → AsksJust (BackupAsks words) (Backup file)
backup_asked words word file written is same = inl (written ∙ ap (λ (w : List ℕ). w ∷ []) (sym same), subst (λ (w : List ℕ). IsFolder w) (sym same) is)

no_file : (words : List (List ℕ)) → ((word : List ℕ) → IsFolder word → words ≡ word ∷ [] → ⊥) → (other : Asked) → BackupAsks words other → ⊥
no_file words none (Backup file) asks = none (string_bytes file) asks.1 asks.0
no_file words none _ asks = asks

pub no_backup : (words : List (List ℕ)) → ((word : List ℕ) → IsFolder word → words ≡ word ∷ [] → ⊥) → AsksJust (BackupAsks words) NotUnderstood
no_backup words none = inr (refl, λ other asks. no_file words none other asks)

-- a first word alone
pub alone_asked : (words : List (List ℕ)) (something asked : Asked) → (words ≡ [] → asked ≡ something) → ((words ≡ [] → ⊥) → asked ≡ NotUnderstood) → AsksJust (λ other. (words ≡ []) × (other ≡ something)) asked
alone_asked [] something asked empty others = inl (refl, empty refl)
alone_asked (w ∷ ws) something asked empty others = inr (others (λ e. cc), λ other asks. cc)

-- ---- with the first word

pub words_asked : (editors : ℕ) (words others : List (List ℕ)) (text : List ℕ) (first : Word) (asked : Asked) → words ≡ text ∷ others → text ≡ word_text first
    → ((w : Word) → text ≡ word_text w → Some first ≡ Some w) → AsksJust (AsksBehind editors first others) asked → AsksJust (WordsAsk editors words) asked
words_asked editors words others text first asked parts is only (inl asks) =
    inl (record { first = first; others = others; written = parts ∙ ap (λ (t : List ℕ). t ∷ others) is; asks = asks })
words_asked editors words others text first asked parts is only (inr none) =
    inr (
      none.0,
      λ other asks.
          let both : text ∷ others ≡ word_text asks.first ∷ asks.others = sym parts ∙ asks.written in
          let front : text ≡ word_text asks.first = cc in
          let rest : others ≡ asks.others = cc in
          let found : Some first ≡ Some asks.first = only asks.first front in
          let same : first ≡ asks.first = cc in
          none.1 other (subst (λ (ws : List (List ℕ)). AsksBehind editors first ws other) (sym rest) (subst (λ (w : Word). AsksBehind editors w asks.others other) (sym same) asks.asks)),
    )

pub no_words : (editors : ℕ) (words others : List (List ℕ)) (text : List ℕ) → words ≡ text ∷ others → ((w : Word) → text ≡ word_text w → ⊥) → AsksJust (WordsAsk editors words) NotUnderstood
no_words editors words others text parts none =
    inr (
      refl,
      λ other asks.
          let both : text ∷ others ≡ word_text asks.first ∷ asks.others = sym parts ∙ asks.written in
          let front : text ≡ word_text asks.first = cc in
          none asks.first front,
    )

pub nothing_asked : (editors : ℕ) (words : List (List ℕ)) → words ≡ [] → AsksJust (WordsAsk editors words) NotUnderstood
nothing_asked editors words empty =
    inr (
      refl,
      λ other asks.
          let both : [] ≡ word_text asks.first ∷ asks.others = sym empty ∙ asks.written in
          cc,
    )

-- ---- lines

-- what is no text asks for nothing
pub no_text : (editors : ℕ) (line : List ℕ) → (IsUtf8 line → ⊥) → AsksJust (Asks editors line) NotUnderstood
no_text editors line not = inr (refl, λ other asks. not asks.0)

-- a text asks for what its words ask for
pub text_asked : (editors : ℕ) (line : List ℕ) (asked : Asked) → IsUtf8 line → AsksJust (WordsAsk editors (words_of line)) asked → AsksJust (Asks editors line) asked
text_asked editors line asked is (inl asks) = inl (is, asks)
text_asked editors line asked is (inr none) = inr (none.0, λ other asks. none.1 other asks.1)

-- what holds of an answer, where there is one
pub ok_more : {A E : Type 0} (P Q : A → Type 0) (r : Result A E) → ((a : A) → P a → Q a) → IfOk r P → IfOk r Q
ok_more P Q (Ok a) more p = more a p
ok_more P Q (Err e) more p = tt
