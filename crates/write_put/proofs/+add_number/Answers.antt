use Rattle.form_table.proofs.Digits.{digits_last, digits_few}
use Rattle.write_put.specs.Puts.{short_text}
use Rattle.write_put.proofs.+add_number.Goals as goal

pub returns-then-v-lt10 : goal.returns-then-v-lt10
unfolding short_text
returns-then-v-lt10 g t c = rw (digits_few c.args.v c.if-v-lt10.true, ← c.figure.ensures) c.add.ensures

pub add-requires-2 : goal.add-requires-2
add-requires-2 g t c = g.met.S.Sink.laws.kept c.requires c.add_number-m.ensures

pub returns : goal.returns
unfolding short_text
returns g t c =
    rw (digits_last c.args.v c.if-v-lt10.false, ← c.figure-2.ensures) (g.met.S.Sink.laws.also c.add_number-m.ensures c.add-2.ensures)
