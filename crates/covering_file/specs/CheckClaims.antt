-- What the checker claims of nodes: each is sound with the narrower slacks, and is refused for a claim that fails.
use Rattle.gradient_bounds.specs.Slacks as slacks
use Rattle.covering_file.specs.FilePart.{Claims}
use Rattle.covering_file.specs.Sound.{IsSoundNode, ClaimHas, ClaimLacks}

abbrev pub check_claims : Claims
check_claims = record { MayStand = λ h. IsSoundNode h slacks.sound; Has = ClaimHas; Lacks = ClaimLacks }
