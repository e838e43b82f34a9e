-- The local forms of Records and Labels are those two checks, once the checks before them hold.
use Rattle.std.proofs.Common.{◌≡◌, ℕ, Bool, true, false, cond, sym, refl, ap, ◌∙◌, List, [], ◌∷◌}
use Rattle.std.specs.Prelude.{is_some, ◌↔◌}
use Rattle.std.proofs.lemmas.Bool.{both_ways, cond_both}
use Rattle.schemes.specs.declared.parts.Parts.{Parts}
use Rattle.graph_edits.specs.Edges.{Network, below as up_to, weight_in}
use Rattle.schemes.specs.Ports.{filtered, neighbours}
use Rattle.schemes.proofs.Basics.Walks.{neighbours_are}
use Rattle.schemes.specs.Tables.{Tables, tables}
use Rattle.schemes.specs.Checks.{parent_is, children, HasRecords, HasLabels}
use Rattle.schemes.specs.Local.{HasLocalRecords, HasLocalLabels}
use Rattle.schemes.proofs.Serving.Exact.{Distances}
use Rattle.schemes.proofs.LocalForms.TreeOfTables.{child_of}
use Rattle.schemes.proofs.LocalForms.LocalRecords.{local_records}
use Rattle.schemes.proofs.LocalForms.TreeRecords.{records_local}
use Rattle.schemes.proofs.LocalForms.LocalLabels.{local_label, label_local}
use Rattle.schemes.proofs.Basics.Options.{is_there}

pub records_check : (m : Network) (t : Tables) → Distances m t → t.nodes ≡ m.nodes → HasRecords m t ↔ HasLocalRecords m t
records_check m t d nodes = (λ h. records_local m t d nodes h, λ h. local_records m t d h)

pub labels_check : (m : Network) (p : Parts) → Distances m (tables p) → HasRecords m (tables p) → (tables p).nodes ≡ m.nodes → HasLabels m p ↔ HasLocalLabels m p
labels_check m p d records nodes = (
  λ h. record {
    listed = λ u e i s. (let k = is_there ((tables p).entry e.node u) s in label_local m (tables p) d records nodes u e.node k.0 e.label k.1 (h.listed u e i s));
    home = λ v q l g n. (let k = d.nearest.there v q n in label_local m (tables p) d records nodes q.landmark v k.1.0 l k.1.1.0 (h.home v q l g n));
  },
  λ h. record {
    listed = λ u e i s. (let k = is_there ((tables p).entry e.node u) s in local_label m (tables p) d records u e.node e.label (d.inside e.node u k.0 k.1) (h.listed u e i s));
    home = λ v q l g n. (let k = d.nearest.there v q n in local_label m (tables p) d records q.landmark v l (d.inside v q.landmark k.1.0 k.1.1.0) (h.home v q l g n));
  },
)

filtered_twice : (b c : ℕ → Bool) → ((x : ℕ) → b x ≡ true → c x ≡ true) → (xs : List ℕ) → filtered b xs ≡ filtered b (filtered c xs)
filtered_twice b c h [] = refl
filtered_twice b c h (x ∷ xs) =
    let rest = filtered_twice b c h xs in
    let ys = filtered b (filtered c xs) in
    cond_both (c x) (x ∷ filtered c xs) (filtered c xs) (λ z. filtered b (x ∷ xs) ≡ filtered b z)
    (λ _. elim (b x) as (λ y. cond y (x ∷ filtered b xs) (filtered b xs) ≡ cond y (x ∷ ys) ys) [ true ↦ ap (λ w. x ∷ w) rest | false ↦ rest ])
    (λ k. cond_both (b x) (x ∷ filtered b xs) (filtered b xs) (λ z. z ≡ ys) (λ e. absurd (both_ways (c x) k (h x e))) (λ _. rest))

-- the children of x are found among its neighbours
pub children_near : (m : Network) (t : Tables) → Distances m t → t.nodes ≡ m.nodes → (r x : ℕ) → children t r x ≡ filtered (λ y. parent_is x (t.entry y r)) (neighbours m x)
children_near m t d nodes r x =
    ap (λ n. filtered (λ y. parent_is x (t.entry y r)) (up_to n)) nodes
    ∙ filtered_twice (λ y. parent_is x (t.entry y r)) (λ y. is_some (weight_in m x y)) near (up_to m.nodes)
    ∙ ap (filtered (λ y. parent_is x (t.entry y r))) (sym (neighbours_are m x))
  where
    near : (y : ℕ) → parent_is x (t.entry y r) ≡ true → is_some (weight_in m x y) ≡ true
    near y g =
        let a = child_of m t r x y (t.entry y r) refl g in
        let c = (d.tight y x r a.entry a.is a.parent).0 in
        ap is_some c.1.1.0
