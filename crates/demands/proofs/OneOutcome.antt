-- A statement is an equation with one side fixed, so two outcomes of it are equal as wholes, and each part is read off the whole. Assumes nothing.
use mathlib.Core.List.{◌++◌}
use mathlib.Core.Path.{ap, sym, ◌∙◌}
use lib.ListN.{drop}
use Rattle.paper.specs.File.{counted}
use Rattle.salvage.specs.Salvage.{SalvageLeft}
use Rattle.boards.specs.Board.{BoardLeft}
use Rattle.report.specs.Printed.{printed}
use Rattle.demands.specs.Products.{OneForC, OneProduct}
use Rattle.demands.proofs.One.{one-record}

-- ── for C: the whole is a pair of the answer and the rest ──
pub one-for-c : OneForC
one-for-c = record {
  build = λ x a a' p q. let e = p ∙ sym q in let s = one-record (ap (λ y. y.1.0) e) in
      λ i. ((e i).0, s i, (e i).1.1, (e i).1.2, (e i).1.3, (e i).1.4.starts, (e i).1.4.places, (e i).1.5, (e i).1.6);
  trial = λ x a a' p q. let e = p ∙ sym q in let s = one-record (ap (λ y. y.1.0) e) in λ i. ((e i).0, s i, (e i).1.1, (e i).1.2, (e i).1.3, (e i).1.4);
  keep = λ x a a' p q. let e = p ∙ sym q in let s = one-record (ap (λ y. y.1.0) e) in
      λ i. ((e i).0, s i, (e i).1.1, (e i).1.2, (e i).1.3, (e i).1.4.sizes, (e i).1.4.vars, (e i).1.4.values);
  read = λ x r r' c c' p q. let e = p ∙ sym q in (
    (λ i. record { number = (e i).0.number; place = (e i).0.place; n = (e i).1.tables.n; m = (e i).1.tables.m; e = (e i).1.tables.e }),
    ap (λ y. counted 0 0 0 y.1) e,
  );
  write = λ x a a' p q. p ∙ sym q;
  move = λ x a a' p q. p ∙ sym q;
  salvages = λ x a a' p q. p ∙ sym q;
  lists = λ x a a' p q. p ∙ sym q;
  feed-read = λ x a a' p q. p ∙ sym q;
  feed-written = λ x a a' p q. p ∙ sym q;
  batch = λ x a a' p q. p ∙ sym q;
  merged = λ first second xs ys lent a a' p q. p ∙ sym q;
  many = λ x a a' p q. p ∙ sym q;
  inputs-of-row = λ part r r' p q. p ∙ sym q;
}

-- ── the calls above the engine ──
pub one_product : OneProduct
one_product = record {
  salvages = λ l o o'. let e = o.stated ∙ sym o'.stated in (ap (λ (x : SalvageLeft). x.answer) e, ap (λ (x : SalvageLeft). x.file) e, ap (λ (x : SalvageLeft). x.list) e);
  lists = λ b o o'. let e = o.stated ∙ sym o'.stated in (ap (λ (x : BoardLeft). x.answer) e, ap (λ (x : BoardLeft). x.row) e);
  batch = λ s w asked b lent o o'. let e = o.stated ∙ sym o'.stated in (ap (λ x. x.0) e, ap (λ x. x.1) e);
  many = λ s w b q lent r r' rows rows' p e. let same = p ∙ sym e in (ap (λ x. x.0) same, ap (λ x. x.1) same);
  merged = λ a b xs ys lent r r' row row' p q. let same = p ∙ sym q in (ap (λ x. x.0) same, ap (λ x. x.1) same);
  inputs-of-row = λ row part r r' p q. (p.0 ∙ sym q.0, p.1 ∙ sym q.1);
  walker = λ w w₁ w₂ r₁ r₂ p q. (p.0 ∙ sym q.0, p.1 ∙ sym q.1);
  prints = λ reasons file before after after' r r' p row p' row'. let same = p ∙ sym p' in
      (same, row ∙ ap (λ k. printed reasons file ++ drop k before) same ∙ sym row');
}
