-- The program that a clear leaves is sound.
use Rattle.std.proofs.Common.{◌≡◌, ℕ, zero, suc, ◌+◌, ◌-◌, ◌<◌, ◌≤◌, T, List, [], ◌∷◌, ◌++◌, length, get_or, Ok, Err, sym, refl, ap, ◌∙◌, subst, inl, inr, arith, length-append}
use native.Mathlib.Decide.{dec_lt}
use lib.ListN.{get_or-eq_default}
use Rattle.rules.specs.Soundness.{Sound}
use Rattle.rules.specs.Trees.{nonzero}
use Rattle.lemmas.proofs.Tests.{same?}
use Rattle.reader.specs.Faults.{Answer, ◌>>=◌}
use Rattle.grammar.specs.Trees.{Proc, Block}
use Rattle.reader.specs.Tokens.{tokenized}
use Rattle.grammar.specs.Parsing.{parsed}
use Rattle.names.specs.Naming.{Reading, named}
use Rattle.unfold.specs.Unfolded.{Nodes, nil}
use Rattle.unfold.specs.Unfolding.{Count, unfold_block, unfolded, callees}
use Rattle.unfold.specs.Sharing.{sharing, ports}
use Rattle.program.specs.Layout.{Program, Point, Place, Cell, laid_out, table_of, points, placing, cells, ends, no_point, no_place, no_cell}
use Rattle.program.specs.Sizes.{entry, size, how_many}
use Rattle.program.specs.Clearing.{cleared, left, AcceptedSound}
use Rattle.program.proofs.Facts.{Good, Fine, all_sound, pos}
use Rattle.program.proofs.Agree.{Agrees, first, second, itself, points_size, placing_size}
use Rattle.program.proofs.Proper.{Proper}
use Rattle.program.proofs.Walk.{low, entry_at, over, walk}
use Rattle.program.proofs.Unfolds.{block_ok, callees_ok}
use Rattle.rules.specs.Programs as rules
use Rattle.program.proofs.Results.{bound}

pub ends_size : (e q n : ℕ) → length (ends e q n) ≡ n
ends_size e q zero = refl
ends_size e q (suc n) = ap suc (ends_size e (suc q) n)

ends_at : (P : ℕ → Point) (e n q o : ℕ) → Agrees P o (ends e q n) → o ≡ e + q → (z : ℕ) → q ≤ z → z < q + n → ((P (e + z)).place ≡ z) × ((P (e + z)).stm ≡ rules.end)
ends_at P e zero q o a i z l h = absurd (omega arith)
ends_at P e (suc n) q o a i z l h =
    elim (same? z q) [
      | inl k ↦
          let j : e + z ≡ o = omega arith in
          (ap (λ v. (P v).place) j ∙ ap (λ r. r.place) a.0 ∙ sym k, ap (λ v. (P v).stm) j ∙ ap (λ r. r.stm) a.0)
      | inr k ↦ ends_at P e n (suc q) (suc o) a.1 (omega arith) z (omega arith) (omega arith)
    ]

abbrev pub cell_in : Nodes → ℕ → Cell
cell_in us c = get_or (cells 0 us 1) c no_cell

module _ (us : Nodes) (f : sharing [] us ≡ Ok tt) (w : Proper (cell_in us) 0 [] us 1) where
  abbrev e : ℕ
  e = size us

  abbrev root : Place
  root = record { parent = 0; under = 0; start = entry us 0 e; got = []; ports = ports us }

  abbrev pts : List Point
  pts = points e 0 [] [] us 1 0 e ++ ends e 0 (suc (how_many us))

  abbrev pls : List Place
  pls = root ∷ placing e 0 us 1 0

  abbrev P : ℕ → Point
  P x = get_or pts x no_point

  abbrev Q : ℕ → Place
  Q q = get_or pls q no_place

  abbrev n : ℕ
  n = length pls

  many : n ≡ suc (how_many us)
  many = ap suc (placing_size e 0 us 1 0)

  aP : Agrees P 0 (points e 0 [] [] us 1 0 e)
  aP = first P 0 (points e 0 [] [] us 1 0 e) (ends e 0 (suc (how_many us))) (itself no_point pts)

  aE : Agrees P (0 + e) (ends e 0 (suc (how_many us)))
  aE = second P 0 e (points e 0 [] [] us 1 0 e) (ends e 0 (suc (how_many us))) (points_size e 0 [] [] us 1 0 e) (itself no_point pts)

  aQ : Agrees Q 1 (placing e 0 us 1 0)
  aQ = (itself no_place pls).1

  past : (q : ℕ) → n ≤ q → Q q ≡ no_place
  past q h = get_or-eq_default pls no_place h

  lower : (q : ℕ) → T (nonzero q) → (Q q).parent < q
  lower q z =
      let l = pos q z in
      let m = many in
      elim (dec_lt q n) [
        | yes h ↦ low Q e us 0 1 0 aQ (omega arith) q (omega arith) (omega arith)
        | no h ↦ subst (λ (v : Place). v.parent < q) (sym (past q (omega arith))) l
      ]

  end_at : (q : ℕ) → q < n → ((P (e + q)).place ≡ q) × ((P (e + q)).stm ≡ rules.end)
  end_at q l = let m = many in ends_at P e (suc (how_many us)) 0 (0 + e) aE (omega arith) q (omega arith) (omega arith)

  end_zero : (P e).place ≡ 0
  end_zero = let m = many in let i : e + 0 ≡ e = omega arith in subst (λ (v : ℕ). (P v).place ≡ 0) i (end_at 0 (omega arith)).0

  walked : ((x : ℕ) → 0 ≤ x → x < 0 + size us → Good P Q (cell_in us) n x (P x)) × ((z : ℕ) → 1 ≤ z → z < 1 + how_many us → Fine P Q (cell_in us) z)
  walked =
      let m = many in
      walk P Q (cell_in us) n e lower (λ q l. (end_at q l).0) us 0 [] [] [] [] 1 0 e aP aQ w f (refl, end_zero, omega arith, omega arith, λ i h. h) tt

  good : (x : ℕ) → Good P Q (cell_in us) n x (P x)
  good x =
      let m = many in
      elim (dec_lt x e) [
        | yes l ↦ walked.0 x (omega arith) (omega arith)
        | no l ↦
            elim (dec_lt x (e + n)) [
              | yes h ↦
                  let i : e + (x - e) ≡ x = omega arith in
                  let k = end_at (x - e) (omega arith) in
                  let j : (P x).place ≡ x - e = subst (λ (v : ℕ). (P v).place ≡ x - e) i k.0 in
                  over P Q (cell_in us) n e lower (λ q l. (end_at q l).0) x (P x) (omega arith) (subst (λ (v : ℕ). (P v).stm ≡ rules.end) i k.1)
              | no h ↦
                  let a = length-append (points e 0 [] [] us 1 0 e) (ends e 0 (suc (how_many us))) in
                  let b = points_size e 0 [] [] us 1 0 e in
                  let c = ends_size e 0 (suc (how_many us)) in
                  let d : P x ≡ no_point = get_or-eq_default pts no_point (omega arith) in
                  over P Q (cell_in us) n e lower (λ q l. (end_at q l).0) x (P x) (subst (λ (v : Point). v.place < n) (sym d) (omega arith)) (ap (λ r. r.stm) d)
            ]
      ]

  pub laid_sound : Sound (table_of (laid_out us))
  laid_sound =
      let m = many in
      all_sound P Q (cell_in us) n lower good (λ q z l. let k = pos q z in walked.1 q (omega arith) (omega arith)) past refl
      (entry_at P e us 0 [] [] 1 0 e aP end_zero) (omega arith)

unfolded_ok : (l : Reading) (ps : List Proc) (b : Block) (us : Nodes) → unfolded l ps b ≡ Ok us → Proper (cell_in us) 0 [] us 1
unfolded_ok l ps b us i =
    let start : Count = record { statements = 0; places = 1; cells = 0 } in
    let k = bound (unfold_block l (callees l ps) b [] start) (λ r. Ok r.0) us i in
    let j : k.0.0 ≡ us = cc in
    subst (λ (v : Nodes). Proper (cell_in v) 0 [] v 1) j
    ((block_ok (cell_in k.0.0) b l (callees l ps) [] start (callees_ok (cell_in k.0.0) l ps) k.0 k.1).1 0 1 [] tt tt tt (itself no_cell (cells 0 k.0.0 1)))

left_sound : (l : Reading) (bs : List ℕ) (r : Answer Program) → cleared l bs ≡ r → Sound (table_of (left r))
left_sound l bs (Err x) i = laid_sound nil refl tt
left_sound l bs (Ok p) i =
    let a = bound (tokenized bs) (λ ts. parsed ts >>= (λ t. named l t >>= (λ ps. unfolded l ps t.main >>= (λ us. sharing [] us >>= (λ u. Ok (laid_out us)))))) p i in
    let b = bound (parsed a.0) (λ t. named l t >>= (λ ps. unfolded l ps t.main >>= (λ us. sharing [] us >>= (λ u. Ok (laid_out us))))) p a.2 in
    let c = bound (named l b.0) (λ ps. unfolded l ps b.0.main >>= (λ us. sharing [] us >>= (λ u. Ok (laid_out us)))) p b.2 in
    let d = bound (unfolded l c.0 b.0.main) (λ us. sharing [] us >>= (λ u. Ok (laid_out us))) p c.2 in
    let f = bound (sharing [] d.0) (λ u. Ok (laid_out d.0)) p d.2 in
    let j : laid_out d.0 ≡ p = cc in
    subst (λ (v : Program). Sound (table_of v)) j (laid_sound d.0 f.1 (unfolded_ok l c.0 b.0.main d.0 d.1))

pub accepted_sound : AcceptedSound
accepted_sound l bs = left_sound l bs (cleared l bs) refl
