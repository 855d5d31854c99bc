-- Why words and a depth make no header.
use Rattle.std.proofs.Common.{◌≡◌, ◌⊎◌, inl, inr, ℕ, ◌+◌, ◌-◌, ◌<◌, ◌≤◌, List, [], All, length, get_or, refl, sym, ap, ◌∙◌, subst, arith, below_more}
use Rattle.std.proofs.lemmas.Bool.{cases_lt}
use Rattle.std.proofs.lemmas.List.{get_or_default}
use Rattle.edge_words.specs.Stable.{IsStable}
use Rattle.covering_file.specs.declared.fault.HeaderFault.{HeaderFault}
use Rattle.covering_file.specs.declared.fault.HeaderFault.TheVariants.{Version, Words, Unstable, Depth}
use Rattle.covering_file.specs.Faults.{word_at, IsFirstUnstable, AreStable, IsFaultIn, IsFaultOf}
use Rattle.covering_file.specs.Header.{Heading, IsHeading, IsStableWord, IsVersionFor, IsWordCount, IsDepth}

pub stable_words : (words : List (List ℕ)) → All IsStableWord words → AreStable words
stable_words words all i listed = (all (i - 1) [] (omega (arith, listed.0, listed.1))).stable

-- ---- the words before the first that is not stable

pub word_behind : (words : List (List ℕ)) (k : ℕ) (word : List ℕ) → k < length words → word ≡ get_or words k word
    → ((j : ℕ) (d : List ℕ) → j < k → IsStableWord (get_or words j d)) → IsStableWord word → (j : ℕ) (d : List ℕ) → j < k + 1 → IsStableWord (get_or words j d)
word_behind words k word within is before here j d less =
    below_more (λ i. IsStableWord (get_or words i d)) k (λ i lt. before i d lt) (subst IsStableWord (is ∙ get_or_default words k word d within) here) j less

pub first_unstable_at : (words : List (List ℕ)) (k : ℕ) (word : List ℕ) → k < length words → word ≡ get_or words k word
    → ((j : ℕ) (d : List ℕ) → j < k → IsStableWord (get_or words j d)) → ¬ IsStable word → IsFirstUnstable words (k + 1)
first_unstable_at words k word within is before other =
    let place : k ≡ k + 1 - 1 = omega arith in
    let here : word ≡ word_at words (k + 1) = is ∙ get_or_default words k word [] within ∙ ap (λ i. get_or words i []) place in
    record {
      listed = (omega arith, omega (arith, within));
      unstable = λ stable. other (subst IsStable (sym here) stable);
      earlier = λ j listed less. (before (j - 1) [] (omega (arith, listed.0, less))).stable;
    }

-- ---- a fault is one

first_is_one : (words : List (List ℕ)) (i j : ℕ) → IsFirstUnstable words i → IsFirstUnstable words j → (i < j) ⊎ (j ≤ i) → (j < i) ⊎ (i ≤ j) → i ≡ j
first_is_one words i j p q (inl less) other = absurd (p.unstable (q.earlier i p.listed less))
first_is_one words i j p q (inr above) (inl less) = absurd (q.unstable (p.earlier j q.listed less))
first_is_one words i j p q (inr above) (inr below) = omega (arith, above, below)

pub fault_is_one : (words : List (List ℕ)) (depth : ℕ) (a b : HeaderFault) → IsFaultIn words depth a → IsFaultIn words depth b → a ≡ b
fault_is_one words depth Version b p q = absurd p
fault_is_one words depth Words Version p q = absurd q
fault_is_one words depth Words Words p q = refl
fault_is_one words depth Words (Unstable j) p q = absurd (p q.0)
fault_is_one words depth Words Depth p q = absurd (p q.0)
fault_is_one words depth (Unstable i) Version p q = absurd q
fault_is_one words depth (Unstable i) Words p q = absurd (q p.0)
fault_is_one words depth (Unstable i) (Unstable j) p q = ap (λ k. Unstable k) (first_is_one words i j p.1 q.1 (cases_lt i j) (cases_lt j i))
fault_is_one words depth (Unstable i) Depth p q = absurd (p.1.unstable (q.1 i p.1.listed))
fault_is_one words depth Depth Version p q = absurd q
fault_is_one words depth Depth Words p q = absurd (q p.0)
fault_is_one words depth Depth (Unstable j) p q = absurd (q.1.unstable (p.1 j q.1.listed))
fault_is_one words depth Depth Depth p q = refl

-- where there is no fault, none is right
pub no_fault : (words : List (List ℕ)) (depth : ℕ) (fault : HeaderFault) → IsWordCount (length words) → All IsStableWord words → IsDepth depth
    → ¬ IsFaultIn words depth fault
no_fault words depth Version count stable deep is = is
no_fault words depth Words count stable deep is = is count
no_fault words depth (Unstable i) count stable deep is = is.1.unstable (stable_words words stable i is.1.listed)
no_fault words depth Depth count stable deep is = is.2 deep

-- ---- the faults of a heading

pub head_fault_is_one : (h : Heading) (a b : HeaderFault) → IsFaultOf h a → IsFaultOf h b → a ≡ b
head_fault_is_one h Version Version p q = refl
head_fault_is_one h Version Words p q = absurd (p q.0)
head_fault_is_one h Version (Unstable j) p q = absurd (p q.0)
head_fault_is_one h Version Depth p q = absurd (p q.0)
head_fault_is_one h Words Version p q = absurd (q p.0)
head_fault_is_one h Words Words p q = refl
head_fault_is_one h Words (Unstable j) p q = fault_is_one h.words h.depth Words (Unstable j) p.1 q.1
head_fault_is_one h Words Depth p q = fault_is_one h.words h.depth Words Depth p.1 q.1
head_fault_is_one h (Unstable i) Version p q = absurd (q p.0)
head_fault_is_one h (Unstable i) Words p q = fault_is_one h.words h.depth (Unstable i) Words p.1 q.1
head_fault_is_one h (Unstable i) (Unstable j) p q = fault_is_one h.words h.depth (Unstable i) (Unstable j) p.1 q.1
head_fault_is_one h (Unstable i) Depth p q = fault_is_one h.words h.depth (Unstable i) Depth p.1 q.1
head_fault_is_one h Depth Version p q = absurd (q p.0)
head_fault_is_one h Depth Words p q = fault_is_one h.words h.depth Depth Words p.1 q.1
head_fault_is_one h Depth (Unstable j) p q = fault_is_one h.words h.depth Depth (Unstable j) p.1 q.1
head_fault_is_one h Depth Depth p q = refl

-- a fault of the words or the depth, where the version is right
pub head_fault : (h : Heading) (fault : HeaderFault) → IsVersionFor h.version (length h.region) → IsFaultIn h.words h.depth fault → IsFaultOf h fault
head_fault h Version version is = absurd is
head_fault h Words version is = (version, is)
head_fault h (Unstable i) version is = (version, is)
head_fault h Depth version is = (version, is)

pub no_head_fault : (h : Heading) (fault : HeaderFault) → IsVersionFor h.version (length h.region) → IsWordCount (length h.words)
    → All IsStableWord h.words → IsDepth h.depth → ¬ (IsFaultOf h fault)
no_head_fault h Version version count stable deep is = is version
no_head_fault h Words version count stable deep is = no_fault h.words h.depth Words count stable deep is.1
no_head_fault h (Unstable i) version count stable deep is = no_fault h.words h.depth (Unstable i) count stable deep is.1
no_head_fault h Depth version count stable deep is = no_fault h.words h.depth Depth count stable deep is.1

pub no_heading_fault : (h : Heading) (fault : HeaderFault) → IsHeading h → ¬ (IsFaultOf h fault)
no_heading_fault h fault is = no_head_fault h fault is.version is.word_count is.stable is.depth
