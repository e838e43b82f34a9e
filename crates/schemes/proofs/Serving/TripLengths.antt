-- How long the way in a tree is: the distances of its ends from the root, less twice that of the ancestor where it turns.
use Rattle.std.proofs.Common.{◌≡◌, ℕ, ◌+◌, ◌-◌, inl, inr, sym, refl, ap, ◌∙◌, arith, List, [], ◌∷◌, ◌++◌, map, reverse}
use Rattle.std.specs.Prelude.{Some}
use Rattle.std.proofs.lemmas.List.{map-append, reverse-append}
use Rattle.heavy_labels.specs.Label.{Label}
use Rattle.heavy_labels.specs.Numbering.{Place, Follows, Joins}
use Rattle.graph_edits.specs.Edges.{Network, weight_in}
use Rattle.schemes.proofs.Basics.Walks.{IsTrail, symmetric}
use Rattle.schemes.specs.Tables.{Tables}
use Rattle.schemes.specs.Trails.{gap, AreMeasured}
use Rattle.schemes.specs.Checks.{HasParents, distance_of}
use Rattle.schemes.proofs.Serving.StepsAsMoves.{IsAtPlace, AreAtPlaces}

-- each place's parent is the next one's node
abbrev pub Chained : List Place → Type 0
Chained [] = Unit {0}
Chained (a ∷ []) = Unit {0}
Chained (a ∷ b ∷ rest) = (a.parent ≡ Some b.node) × Chained (b ∷ rest)

abbrev pub head_or : List Place → Place → Place
head_or [] p = p
head_or (a ∷ rest) p = a

abbrev pub nodes_of : List Place → List ℕ
nodes_of xs = map (λ a. a.node) xs

module _ (m : Network) (t : Tables) (r : ℕ) (tight : HasParents m t) where
  abbrev pub dist : Place → ℕ
  dist a = distance_of (t.entry a.node r)

  edge : (a b : Place) → IsAtPlace m t r a → IsAtPlace m t r b → a.parent ≡ Some b.node → (w : ℕ) × ((weight_in m b.node a.node ≡ Some w) × (dist a ≡ dist b + w))
  edge a b sa sb e =
      let c = (tight a.node b.node r sa.entry sa.is (sa.parent ∙ e)).0 in
      (c.0, (c.1.1.0, ap distance_of sa.is ∙ c.1.1.1.1 ∙ ap (λ z. distance_of z + c.0) (sym c.1.1.1.0)))

  pub climb : (up : List Place) (at : Place) (rest : List Place) (v y : ℕ) → AreAtPlaces m t r (up ++ at ∷ rest) → Chained (up ++ at ∷ [])
      → IsTrail m at.node (nodes_of (at ∷ rest)) v y → (x : ℕ) × (IsTrail m (head_or up at).node (nodes_of (up ++ at ∷ rest)) v x × (x + dist at ≡ y + dist (head_or up at)))
  climb [] at rest v y placed ch tr = (y, (tr, refl))
  climb (a ∷ []) at rest v y placed ch tr =
      let g = edge a at placed.0 placed.1.0 ch.0 in
      (g.0 + y, ((g.0, (y, (refl, (symmetric m a.node at.node ∙ g.1.0, (refl, tr))))), omega (arith, g.1.1)))
  climb (a ∷ b ∷ up) at rest v y placed ch tr =
      let g = edge a b placed.0 placed.1.0 ch.0 in
      let ih = climb (b ∷ up) at rest v y placed.1 ch.1 tr in
      (g.0 + ih.0, ((g.0, (ih.0, (refl, (symmetric m a.node b.node ∙ g.1.0, (refl, ih.1.0))))), omega (arith, g.1.1, ih.1.1)))

  pub trail_snoc : (u v b x w : ℕ) (xs : List ℕ) → IsTrail m u xs v x → weight_in m v b ≡ Some w → IsTrail m u (xs ++ b ∷ []) b (x + w)
  trail_snoc u v b x w [] tr e = absurd tr
  trail_snoc u v b x w (a ∷ []) tr e = (w, (0, (tr.0, (ap (λ z. weight_in m z b) (sym tr.1.0) ∙ e, (omega (arith, tr.1.1), (refl, (refl, refl)))))))
  trail_snoc u v b x w (a ∷ c ∷ xs) tr e =
      let g = tr.1.1 in
      (tr.0, (tr.1.0 + w, (g.0, (g.1.0, (omega (arith, g.1.1.0), trail_snoc c v b tr.1.0 w (c ∷ xs) g.1.1.1 e)))))

  pub fall : (down : List Place) (at : Place) → AreAtPlaces m t r (down ++ at ∷ []) → Chained (down ++ at ∷ [])
      → (y : ℕ) × (IsTrail m at.node (nodes_of (at ∷ reverse down)) (head_or down at).node y × (y + dist at ≡ dist (head_or down at)))
  fall [] at placed ch = (0, ((refl, (refl, refl)), omega arith))
  fall (a ∷ down) at placed ch =
      let chained = (elim down as (λ z. Chained (a ∷ (z ++ at ∷ [])) → (a.parent ≡ Some (head_or z at).node) × Chained (z ++ at ∷ [])) [ [] ↦ λ c. c | b ∷ z ↦ λ c. c ]) ch in
      let head = (elim down as (λ z. AreAtPlaces m t r (z ++ at ∷ []) → IsAtPlace m t r (head_or z at)) [ [] ↦ λ s. s.0 | b ∷ z ↦ λ s. s.0 ]) placed.1 in
      let ih = fall down at placed.1 chained.1 in
      let g = edge a (head_or down at) placed.0 head chained.0 in
      let turned : nodes_of (at ∷ reverse (a ∷ down)) ≡ nodes_of (at ∷ reverse down) ++ a.node ∷ [] = ap (λ z. nodes_of (at ∷ z)) (reverse-append (a ∷ []) down) ∙ map-append (λ (z : Place). z.node) (at ∷ reverse down) (a ∷ []) in
      (ih.0 + g.0, (rw turned (trail_snoc at.node (head_or down at).node a.node ih.0 g.0 (nodes_of (at ∷ reverse down)) ih.1.0 g.1.0), omega (arith, g.1.1, ih.1.1)))

  -- up to `at` and down again: no longer than the distances of both ends from the root together, and where one end is
  -- the root, just the distance of the other
  pub along : (up : List Place) (at : Place) (down : List Place) → AreAtPlaces m t r (up ++ at ∷ reverse down) → AreAtPlaces m t r (down ++ at ∷ [])
      → Chained (up ++ at ∷ []) → Chained (down ++ at ∷ [])
      → (x : ℕ) × (IsTrail m (head_or up at).node (nodes_of (up ++ at ∷ reverse down)) (head_or down at).node x × (x + (dist at + dist at) ≡ dist (head_or up at) + dist (head_or down at)))
  along up at down s1 s2 c1 c2 =
      let f = fall down at s2 c2 in
      let c = climb up at (reverse down) (head_or down at).node f.0 s1 c1 f.1.0 in
      (c.0, (c.1.0, omega (arith, c.1.1, f.1.1)))

  -- the gap between the distances of two numbers, the one w above the other
  gaps : (a b w : ℕ) → a ≡ b + w → ((a - b) + (b - a) ≡ w) × ((b - a) + (a - b) ≡ w)
  gaps a b w e = (omega (arith, e), omega (arith, e))

  hop_measured : (a b : Place) (q : ℕ) → IsAtPlace m t r a → IsAtPlace m t r b → Joins a b q → weight_in m a.node b.node ≡ Some (gap t r a.node b.node)
  hop_measured a b q sa sb (inl j) =
      let g = edge a b sa sb j.0 in
      symmetric m a.node b.node ∙ g.1.0 ∙ ap (λ z. Some z) (sym (gaps (dist a) (dist b) g.0 g.1.1).0)
  hop_measured a b q sa sb (inr j) =
      let g = edge b a sb sa j.0 in
      g.1.0 ∙ ap (λ z. Some z) (sym (gaps (dist b) (dist a) g.0 g.1.1).1)

  -- each hop of what a label's steps follow is as long as the distances of its ends differ
  pub measured : (a : Place) (rest : List Place) (l : Label) → AreAtPlaces m t r (a ∷ rest) → Follows l (a ∷ rest) → AreMeasured m t r a.node (nodes_of rest)
  measured a [] l s f = tt
  measured a (b ∷ rest) l s f = (hop_measured a b f.0.0 s.0 s.1.0 f.0.1.1, measured b rest l s.1 f.1)
