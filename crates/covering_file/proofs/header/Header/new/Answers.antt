use Rattle.std.proofs.Common.{◌≡◌, ℕ, List, All, length, subst}
use Rattle.rational_polygon.specs.Outline.{Outline}
use Rattle.covering_file.specs.Faults.{IsFaultIn, IsFaultOf}
use Rattle.covering_file.specs.Header.{Heading, IsStableWord, IsVersionFor, IsWordCount, IsDepth}
use Rattle.covering_file.proofs.HeaderFaults.{head_fault_is_one, head_fault, no_heading_fault, no_head_fault}
use Rattle.covering_file.proofs.header.Header.new.Goals as goal

pub returns-in-Err-clause-heading : goal.returns-in-Err-clause-heading
returns-in-Err-clause-heading c =
    let version : IsVersionFor c.args.version (length c.args.region) =
    subst (λ (ps : List Outline). IsVersionFor c.args.version (length ps)) c.polygons.ensures.all
    (c.is_version_for.ensures.0 c.if-not-is_version_for.false) in
    let heading : Heading = record { version = c.args.version; region = c.args.region; words = c.args.words.items; depth = c.args.depth } in
    let right = subst (λ (ws : List (List ℕ)). IsFaultIn ws c.args.depth c.in-Err.fault) c.as_slice.ensures.value c.in-Err.ensures.refused in
    ((λ ok. absurd (cc)), (λ is. absurd (no_heading_fault heading c.in-Err.fault is (head_fault heading c.in-Err.fault version right))))

pub returns-in-Err-clause-refused : goal.returns-in-Err-clause-refused
returns-in-Err-clause-refused c fault =
    let version : IsVersionFor c.args.version (length c.args.region) =
    subst (λ (ps : List Outline). IsVersionFor c.args.version (length ps)) c.polygons.ensures.all
    (c.is_version_for.ensures.0 c.if-not-is_version_for.false) in
    let heading : Heading = record { version = c.args.version; region = c.args.region; words = c.args.words.items; depth = c.args.depth } in
    let right = subst (λ (ws : List (List ℕ)). IsFaultIn ws c.args.depth c.in-Err.fault) c.as_slice.ensures.value c.in-Err.ensures.refused in
    let is = head_fault heading c.in-Err.fault version right in (
      (λ e. let same : c.in-Err.fault ≡ fault = cc in subst (IsFaultOf heading) same is),
      (λ other. let same : c.in-Err.fault ≡ fault = head_fault_is_one heading c.in-Err.fault fault is other in cc),
    )

pub returns-in-Ok-clause-refused : goal.returns-in-Ok-clause-refused
returns-in-Ok-clause-refused c fault =
    let version : IsVersionFor c.args.version (length c.args.region) =
    subst (λ (ps : List Outline). IsVersionFor c.args.version (length ps)) c.polygons.ensures.all
    (c.is_version_for.ensures.0 c.if-not-is_version_for.false) in
    let heading : Heading = record { version = c.args.version; region = c.args.region; words = c.args.words.items; depth = c.args.depth } in
    let passed = subst (λ (ws : List (List ℕ)). IsWordCount (length ws) × All IsStableWord ws
    × IsDepth c.args.depth) c.as_slice.ensures.value c.in-Ok.ensures.passed in
    ((λ e. absurd (cc)), (λ is. absurd (no_head_fault heading fault version passed.0 passed.1 passed.2 is)))
