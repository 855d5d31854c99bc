-- The colours of the words of a covering.
-- Sources: Masataka Okabe and Kei Ito, Color Universal Design (2008), and Paul Tol, Colour Schemes (SRON/EPS/TN/09-002, 2021), whose schemes are safe for
-- the colour-blind, and lighter and darker steps of their colours. Which of them, and their order, is this program's own: those that follow one another
-- differ most, for eyes that see all colours and for those that lack one kind of cone.
use Rattle.std.specs.Prelude.{ℕ, zero, suc, List, [], ◌∷◌, codes, slice_index_or}

abbrev pub colours : List (List ℕ)
colours =
    codes "#d6c6dd" ∷ codes "#ac5834" ∷ codes "#4c3856" ∷ codes "#c9e2c0" ∷ codes "#838383" ∷ codes "#e69f00" ∷ codes "#4c1a02" ∷ codes "#0072b2"
    ∷ codes "#baa3a1" ∷ codes "#555555" ∷ codes "#f0e442" ∷ codes "#993404" ∷ codes "#90c987" ∷ codes "#cc79a7" ∷ codes "#004488" ∷ codes "#009e73"
    ∷ codes "#474724" ∷ codes "#99ddff" ∷ codes "#6f6f90" ∷ codes "#d55e00" ∷ codes "#6b303b" ∷ codes "#6fb27a" ∷ codes "#746a74" ∷ codes "#e4bbc2"
    ∷ codes "#002244" ∷ codes "#56b4e9" ∷ codes "#566a4f" ∷ codes "#c8c859" ∷ codes "#6b4e78" ∷ codes "#99b4cf" ∷ codes "#9b8f53" ∷ codes "#5289c7" ∷ []

-- the colour of the word of this number, counted from 1
abbrev pub colour_of : ℕ → List ℕ
colour_of zero = codes "black"
colour_of (suc i) = slice_index_or colours i (codes "black")
