use Rattle.std.proofs.Common.{◌≡◌, ℕ, max, length, sym, ap, ◌∙◌, subst}
use Rattle.covering_file.specs.declared.TheConstants.{MAX_NODES}
use Rattle.covering_file.specs.Header.{Heading, IsVersionFor}
use Rattle.covering_file.specs.TreeFile.{TreeFile, IsTreeFile, upgraded}
use Rattle.covering_file.proofs.Upgraded.{greater_version, upgraded_is_file}
use Rattle.covering_file.proofs.tree.Tree.upgraded.Goals as goal

pub in_version-requires : goal.in_version-requires
in_version-requires c =
    let h = c.self.inside.header in
    let is : c.max-version.result ≡ max c.args.version h.version =
    c.max-version.ensures ∙ ap (λ (v : ℕ). max c.args.version v) c.version.ensures.value in
    subst (λ (v : ℕ). IsVersionFor v (length h.region)) (sym is)
    (greater_version h.version c.args.version (length h.region) c.version.ensures.is_heading.version c.requires.is_version c.requires.at_least)

-- the header in the greater version
same_heading : (version other : ℕ) (h result : Heading) (greater : ℕ) → greater ≡ max version other → other ≡ h.version
    → result ≡ record { version = greater; region = h.region; words = h.words; depth = h.depth } → result ≡ upgraded version h
same_heading version other h result greater first second is =
    is ∙ ap (λ (v : ℕ). let g : Heading = record { version = v; region = h.region; words = h.words; depth = h.depth } in g)
    (first ∙ ap (λ (v : ℕ). max version v) second)

pub invariant_of-result : goal.invariant_of-result
invariant_of-result c =
    let h = c.self.inside.header in
    let nodes = c.self.inside.nodes.items in
    let same = same_heading c.args.version c.version.result h c.in_version.result c.max-version.result c.max-version.ensures c.version.ensures.value
    c.in_version.ensures in
    subst (λ (g : Heading). IsTreeFile MAX_NODES (record { heading = g; nodes = nodes })) (sym same)
    (upgraded_is_file MAX_NODES c.args.version (record { heading = h; nodes = nodes }) c.requires.is_version c.requires.at_least c.self.invariant)

pub returns : goal.returns
returns c =
    let h = c.self.inside.header in
    let nodes = c.self.inside.nodes.items in
    let same = same_heading c.args.version c.version.result h c.in_version.result c.max-version.result c.max-version.ensures c.version.ensures.value
    c.in_version.ensures in
    ap (λ (g : Heading). let f : TreeFile = record { heading = g; nodes = nodes } in f) same
    ∙ ap (λ (f : TreeFile). let g : TreeFile = record { heading = upgraded c.args.version f.heading; nodes = f.nodes } in g) c.self.view_is
