use Rattle.std.proofs.Common.{◌≡◌, ℕ, List, ap, ◌∙◌, subst, ◌∷◌, [], ◌++◌, reverse, append_assoc}
use Rattle.distances.specs.Workspace.{reached_of}
use Rattle.single_route.specs.ListedLines.{IsFork}
use Rattle.single_route.proofs.ListedTrees.{listed_path, some_common}
use Rattle.single_route.proofs.paths.path_between.Goals as goal

pub unreachable-requires : goal.unreachable-requires
unreachable-requires c =
    let fork = c.fork_of-fork.result in
    let a = subst (λ z. IsFork z c.deref-2.result.now fork.up.now fork.down.now fork.at) c.deref.ensures.value c.fork_of-fork.ensures in
    let b = subst (λ z. IsFork c.in_ok-up.up.items z fork.up.now fork.down.now fork.at) c.deref-2.ensures.value a in
    some_common (reached_of c.args.members.now) c.args.from c.args.to c.in_ok-up.up.items c.in_ok-down.down.items fork.up.now fork.down.now fork.at c.requires.one_root c.in_ok-up.ensures c.in_ok-down.ensures b c.in_default.is

-- what is put together
joined : (whole pushed path left back right turned given : List ℕ) (at : ℕ) → path ≡ left → pushed ≡ path ++ at ∷ [] → back ≡ right → turned ≡ reverse back → given ≡ turned → whole ≡ pushed ++ given
    → whole ≡ left ++ at ∷ reverse right
joined whole pushed path left back right turned given at a b c d e f =
    f ∙ (λ i. b i ++ e i) ∙ (λ i. (a i ++ at ∷ []) ++ (d ∙ ap reverse c) i) ∙ append_assoc left (at ∷ []) (reverse right)

pub returns : goal.returns
returns c =
    let fork = c.fork_of-fork.result in
    let a = subst (λ z. IsFork z c.deref-2.result.now fork.up.now fork.down.now fork.at) c.deref.ensures.value c.fork_of-fork.ensures in
    let b = subst (λ z. IsFork c.in_ok-up.up.items z fork.up.now fork.down.now fork.at) c.deref-2.ensures.value a in
    listed_path (reached_of c.args.members.now) c.args.from c.args.to c.in-Some.at c.in_ok-up.up.items c.in_ok-down.down.items fork.up.now fork.down.now c.extend_from_slice.new.self.items fork.at
    c.in_ok-up.ensures c.in_ok-down.ensures b c.in-Some.is
    (joined c.extend_from_slice.new.self.items c.push.new.self.items c.in_ok-path.path.items fork.up.now c.in_ok-back.back.items fork.down.now c.reverse.new.self.items c.deref-3.result.now c.in-Some.at
    c.in_ok-path.ensures.items c.in_ok-push.ensures.items c.in_ok-back.ensures.items c.reverse.ensures.items c.deref-3.ensures.value c.in_ok-extend_from_slice.ensures.items)
