-- Why preparing a stable word was refused.
use Rattle.std.proofs.Common.{◌≡◌, ℕ, List, refl}
use Rattle.std.specs.Prelude.{Result, Ok, Err}
use Rattle.edge_words.specs.Stable.{IsStable}
use Rattle.defining_functions.specs.declared.fault.FunctionsFault.{FunctionsFault}
use Rattle.defining_functions.specs.declared.fault.FunctionsFault.TheVariants as functions_fault
use Rattle.gradient_bounds.specs.declared.fault.PrepareFault.{PrepareFault}
use Rattle.gradient_bounds.specs.declared.fault.PrepareFault.TheVariants.{Unstable, Memory}
use Rattle.gradient_bounds.specs.Faults.{fault_of}

-- the answer is Unstable exactly for words that are not stable
abbrev pub IsUnstableFor : {T : Type 0} → List ℕ → Result T PrepareFault → Type 0
IsUnstableFor w r = (r ≡ Err Unstable → IsStable w → ⊥) × (¬ (IsStable w) → r ≡ Err Unstable)

pub refused_by_memory : {T : Type 0} (w : List ℕ) (r : Result T PrepareFault) (e : PrepareFault) → IsStable w → r ≡ Err e → e ≡ Memory → IsUnstableFor w r
refused_by_memory w r e stable is memory = (λ unstable _. cc, λ not_stable. absurd (not_stable stable))

pub refused_by_functions : {T : Type 0} (w : List ℕ) (r : Result T PrepareFault) (e : PrepareFault) (fault : FunctionsFault) → IsStable w → r ≡ Err e
    → e ≡ fault_of fault → (fault ≡ functions_fault.NotTranslate → ⊥) → IsUnstableFor w r
refused_by_functions w r e functions_fault.NotTranslate stable is because not_so = absurd (not_so refl)
refused_by_functions w r e functions_fault.Memory stable is because not_so = refused_by_memory w r e stable is because

pub not_refused : {T : Type 0} (w : List ℕ) (x : T) → IsStable w → IsUnstableFor w (Ok x)
not_refused w x stable = (λ unstable _. cc, λ not_stable. absurd (not_stable stable))
