-- Files of tables, one behind the other.
use Rattle.std.proofs.Common.{◌≡◌, ◌≢◌, ◌≤◌, ◌⊎◌, ◌∙◌, ap, arith, inl, inr, refl, sym, subst, ℕ, zero, suc, ◌+◌, ◌<◌, List, [], ◌∷◌, ◌++◌, length, length-append, append_assoc, map, max, get_or, take, Result, Ok, Err, IfErr, IsErrAnd}
use Rattle.std.specs.Prelude.{sum_by}
use Rattle.std.proofs.lemmas.List.{append-nil, map-append, take_all, take_more}
use Rattle.std.proofs.lemmas.List.Elements.{All-get_or, All-nil, All-push}
use Rattle.std.proofs.lemmas.List.Sums.{fold-append, sum_by-append}
use Rattle.graph_edits.specs.Edges.{below}
use Rattle.schemes.specs.declared.parts.Parts.{Parts}
use Rattle.router_table.specs.Order.{IsTable}
use Rattle.router_table.specs.Table.{table_at}
use Rattle.command_output.specs.Printing.{Ends, Known}
use Rattle.command_output.specs.declared.ended.Ended.{Ended}
use Rattle.command_output.specs.declared.fault.Fault.{Fault}
use Rattle.command_output.specs.declared.fault.Fault.TheVariants as told
use Rattle.command_output.specs.RouteLines.{tables_text}
use Rattle.table_files.specs.declared.totals.Totals.{Totals}
use Rattle.table_files.specs.Files.{HasPut, IsPutFault, Put}
use Rattle.table_files.specs.Tables.{AreThere, HasPutSome, IsPuttingFault, IsTotalOf, MayMiss, asked_nodes, bytes_in, file_of, files_of, put_text}

-- nothing was put
pub none_put : (puts : List Put) → HasPut puts puts []
none_put puts = sym (append-nil puts)

-- the files of one node more
files_more : (p : Parts) (folder nodes : List ℕ) (i d : ℕ) → i < length nodes → files_of p folder (take (i + 1) nodes) ≡ files_of p folder (take i nodes) ++ file_of p folder (get_or nodes i d) ∷ []
files_more p folder nodes i d lt = ap (map (file_of p folder)) (take_more nodes i d lt) ∙ map-append (file_of p folder) (take i nodes) (get_or nodes i d ∷ [])

-- one file more was put
pub one_put : (p : Parts) (folder nodes : List ℕ) (i d : ℕ) (old mid new : List Put) → i < length nodes → HasPut old mid (files_of p folder (take i nodes)) → new ≡ mid ++ file_of p folder (get_or nodes i d) ∷ []
    → HasPut old new (files_of p folder (take (i + 1) nodes))
one_put p folder nodes i d old mid new lt before after =
    after
    ∙ ap (λ (puts : List Put). puts ++ file_of p folder (get_or nodes i d) ∷ []) before
    ∙ append_assoc old (files_of p folder (take i nodes)) (file_of p folder (get_or nodes i d) ∷ [])
    ∙ ap (λ (puts : List Put). old ++ puts) (sym (files_more p folder nodes i d lt))

-- and all were
pub all_put : (p : Parts) (folder nodes : List ℕ) (i : ℕ) (old new : List Put) → length nodes ≤ i → HasPut old new (files_of p folder (take i nodes)) → HasPut old new (files_of p folder nodes)
all_put p folder nodes i old new end put = put ∙ ap (λ (ns : List ℕ). old ++ files_of p folder ns) (take_all i nodes end)

-- the totals of one file more
pub total_push : (totals next : Totals) (puts : List Put) (put : Put) → IsTotalOf totals puts → next.tables ≡ totals.tables + 1 → next.bytes ≡ totals.bytes + length put.bytes → next.greatest ≡ max totals.greatest (length put.bytes)
    → IsTotalOf next (puts ++ put ∷ [])
total_push totals next puts put is tables bytes greatest = record {
  tables = tables ∙ ap (λ n. n + 1) is.tables ∙ sym (length-append puts (put ∷ []));
  bytes =
      let one : length put.bytes ≡ sum_by (λ (q : Put). length q.bytes) (put ∷ []) = omega arith in
      bytes ∙ ap (λ n. n + length put.bytes) is.bytes ∙ ap (λ n. bytes_in puts + n) one ∙ sym (sum_by-append (λ (q : Put). length q.bytes) puts (put ∷ []));
  greatest = greatest ∙ ap (λ n. max n (length put.bytes)) is.greatest ∙ sym (fold-append (λ (most : ℕ) (q : Put). max most (length q.bytes)) 0 puts (put ∷ []));
}

pub total_more : (p : Parts) (folder nodes : List ℕ) (i d len : ℕ) (totals next : Totals) → i < length nodes → len ≡ length (file_of p folder (get_or nodes i d)).bytes
    → IsTotalOf totals (files_of p folder (take i nodes)) → next.tables ≡ totals.tables + 1 → next.bytes ≡ totals.bytes + len → next.greatest ≡ max totals.greatest len
    → IsTotalOf next (files_of p folder (take (i + 1) nodes))
total_more p folder nodes i d len totals next lt long is tables bytes greatest =
    let file = file_of p folder (get_or nodes i d) in
    subst (λ (puts : List Put). IsTotalOf next puts) (sym (files_more p folder nodes i d lt))
    (total_push totals next (files_of p folder (take i nodes)) file is tables (bytes ∙ ap (λ n. totals.bytes + n) long) (greatest ∙ ap (λ n. max totals.greatest n) long))

-- the text of totals is that of the files
pub total_text : (totals : Totals) (generation : ℕ) (puts : List Put) → IsTotalOf totals puts → tables_text generation totals.tables totals.bytes totals.greatest ≡ put_text generation puts
total_text totals generation puts is =
    ap (λ n. tables_text generation n totals.bytes totals.greatest) is.tables
    ∙ ap (λ n. tables_text generation (length puts) n totals.greatest) is.bytes
    ∙ ap (λ n. tables_text generation (length puts) (bytes_in puts) n) is.greatest

-- ---- the nodes that are asked for

below_within : (n m : ℕ) → n ≤ m → AreThere m (below n)
below_within zero m le = All-nil (λ node. node < m)
below_within (suc n) m le = All-push (λ node. node < m) (below n) n (below_within n m (omega arith)) (omega arith)

-- they are there, where those are that are named
pub asked_there : (named : List ℕ) (n : ℕ) → AreThere n named → AreThere n (asked_nodes named n)
asked_there [] n there = below_within n n (omega arith)
asked_there (node ∷ named) n there = there

-- ---- the fault that came

-- what holds of the fault that came holds of the one that is handed up
pub handed_up : {T : Type 0} (r : Result T Fault) (P : Fault → Type 0) (fault : Fault) → IsErrAnd r (λ e. e ≡ fault) → P fault → IfErr r P
handed_up (Ok x) P fault is has = absurd is
handed_up (Err e) P fault is has = subst P (sym is) has

-- and a command ends so by it
pub ends_by : {W : Type 0} (r : Result Ended Fault) (Prints : Ended → Known → Known → Type 0) (MayFail : Fault → Type 0) (contents : W → Known) (old new : W) (fault : Fault) → IsErrAnd r (λ e. e ≡ fault)
    → MayFail fault → (fault ≢ told.Output → new ≡ old) → Ends Prints MayFail contents old new r
ends_by (Ok ended) Prints MayFail contents old new fault is may kept = absurd is
ends_by (Err e) Prints MayFail contents old new fault is may kept =
    record { printed = tt; fault = subst MayFail (sym is) may; untouched = λ other. kept (subst (λ (f : Fault). f ≢ told.Output) is other) }

named_putting : (p : Parts) (node : ℕ) (fault : Fault) → IsPutFault fault ⊎ MayMiss p node fault → IsPuttingFault fault
named_putting p node told.TableFile is = tt
named_putting p node told.Memory is = tt
named_putting p node told.Internal is = tt
named_putting p node _ (inl is) = absurd is
named_putting p node _ (inr is) = absurd is

never_printed : (p : Parts) (node : ℕ) (fault : Fault) → IsPutFault fault ⊎ MayMiss p node fault → fault ≢ told.Output
never_printed p node told.TableFile is = λ same. absurd (cc)
never_printed p node told.Memory is = λ same. absurd (cc)
never_printed p node told.Internal is = λ same. absurd (cc)
never_printed p node _ (inl is) = absurd is
never_printed p node _ (inr is) = absurd is

not_in_order : (p : Parts) (node : ℕ) (fault : Fault) → IsPutFault fault ⊎ MayMiss p node fault → fault ≡ told.Internal → ¬ IsTable (table_at p node)
not_in_order p node told.Internal (inl is) same = absurd is
not_in_order p node told.Internal (inr is) same = is
not_in_order p node told.TableFile is same = absurd (cc)
not_in_order p node told.Memory is same = absurd (cc)
not_in_order p node _ (inl is) same = absurd is
not_in_order p node _ (inr is) same = absurd is

-- the file of a node wasn't put, those before it were
pub one_missed : (p : Parts) (folder nodes : List ℕ) (i d : ℕ) (old new : List Put) (fault : Fault) → i < length nodes → HasPut old new (files_of p folder (take i nodes))
    → IsPutFault fault ⊎ MayMiss p (get_or nodes i d) fault → (fault ≢ told.Output) × HasPutSome p folder nodes (HasPut old new) fault
one_missed p folder nodes i d old new fault lt put why = (
  never_printed p (get_or nodes i d) fault why,
  record {
    named = named_putting p (get_or nodes i d) fault why;
    count = i;
    files = put;
    internal = λ is all. not_in_order p (get_or nodes i d) fault why is (All-get_or (λ node. IsTable (table_at p node)) nodes i d lt all);
    output = λ is. absurd (never_printed p (get_or nodes i d) fault why is);
  },
)

-- all were put, and their line wasn't printed
pub line_missed : (p : Parts) (folder nodes : List ℕ) (old new : List Put) → HasPut old new (files_of p folder nodes) → HasPutSome p folder nodes (HasPut old new) told.Output
line_missed p folder nodes old new put = record {
  named = tt;
  count = length nodes;
  files = put ∙ ap (λ (ns : List ℕ). old ++ files_of p folder ns) (sym (take_all (length nodes) nodes (omega arith)));
  internal = λ is. absurd (cc);
  output = λ is. refl;
}
