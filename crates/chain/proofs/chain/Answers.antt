-- `chain::chain` meets its contract: no product is refused, and the steps make the chain. Assumes nothing.
use Rattle.std.proofs.Common.{◌∙◌, arith}
use Rattle.chain.proofs.Inverting.{counted, product-done, chained}
use Rattle.chain.proofs.chain.Goals as goal

pub returns-in_default : goal.returns-in_default
returns-in_default c =
    let s = c.args in
    let f = counted s.at _ _ _ c.requires.alphas_fit in
    let p = c.requires.powers_fit in
    let d = product-done s.at.layer s.at.from s.at.count _ _ _ _ _ _ _ _ _ f p.third p.first (c.square_layer.auto.out ∙ p.second) (omega arith) c.mul_tables-cubed.ensures.number c.mul_tables-cubed.ensures.bytes in
    absurd (c.in_default.not-Ok tt d.0)

pub returns-in_default-fifteenth : goal.returns-in_default-fifteenth
returns-in_default-fifteenth c =
    let s = c.args in
    let f = counted s.at _ _ _ c.requires.alphas_fit in
    let p = c.requires.powers_fit in
    let d = product-done s.at.layer s.at.from s.at.count _ _ _ _ _ _ _ _ _ f p.fifteenth (c.square_again.auto.v ∙ c.square_layer-2.auto.out ∙ p.twelfth) (c.mul_tables-cubed.auto.out ∙ p.third) (omega arith) c.mul_tables-fifteenth.ensures.number c.mul_tables-fifteenth.ensures.bytes in
    absurd (c.in_default-fifteenth.not-Ok tt d.0)

pub returns-in_default-fourteenth : goal.returns-in_default-fourteenth
returns-in_default-fourteenth c =
    let s = c.args in
    let f = counted s.at _ _ _ c.requires.alphas_fit in
    let p = c.requires.powers_fit in
    let d = product-done s.at.layer s.at.from s.at.count _ _ _ _ _ _ _ _ _ f p.fourteenth (c.square_again.auto.v ∙ c.square_layer-2.auto.out ∙ p.twelfth) (c.square_layer.auto.out ∙ p.second) (omega arith) c.mul_tables-fourteenth.ensures.number c.mul_tables-fourteenth.ensures.bytes in
    absurd (c.in_default-fourteenth.not-Ok tt d.0)

pub returns : goal.returns
returns c =
    let s = c.args in
    let f = counted s.at _ _ _ c.requires.alphas_fit in
    let p = c.requires.powers_fit in
    let l2 = c.square_layer.auto.out ∙ p.second in
    let l12 = c.square_again.auto.v ∙ c.square_layer-2.auto.out ∙ p.twelfth in
    let d3 = product-done s.at.layer s.at.from s.at.count _ _ _ _ _ _ _ _ _ f p.third p.first l2 (omega arith) c.mul_tables-cubed.ensures.number c.mul_tables-cubed.ensures.bytes in
    let d15 = product-done s.at.layer s.at.from s.at.count _ _ _ _ _ _ _ _ _ f p.fifteenth l12 (c.mul_tables-cubed.auto.out ∙ p.third) (omega arith) c.mul_tables-fifteenth.ensures.number c.mul_tables-fifteenth.ensures.bytes in
    let d14 = product-done s.at.layer s.at.from s.at.count _ _ _ _ _ _ _ _ _ f p.fourteenth l12 l2 (omega arith) c.mul_tables-fourteenth.ensures.number c.mul_tables-fourteenth.ensures.bytes in
    let d = product-done s.at.layer s.at.from s.at.count _ _ _ _ _ _ _ _ _ f p.first (c.raise_to_16.auto.v ∙ c.mul_tables-fifteenth.auto.out ∙ p.fifteenth) (c.mul_tables-fourteenth.auto.out ∙ p.fourteenth) (omega arith) c.mul_tables.ensures.number c.mul_tables.ensures.bytes in
    record { done = d.0; bytes = chained s.at.count s.at.layer s.at.from s.alphas.now.a0.now s.alphas.now.a1.now s.alphas.now.a2.now _ _ _ _ _ _ _ _ _ c.square_layer.ensures d3.1 c.square_layer-2.ensures c.square_again.ensures d15.1 d14.1 c.raise_to_16.ensures d.1 }
