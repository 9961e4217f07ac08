use Rattle.write_put.specs.Puts.{short_text}
use Rattle.write_put.proofs.bytes_of.Goals as goal

pub returns-in-Nothing : goal.returns-in-Nothing
unfolding short_text
returns-in-Nothing c = rw c.in-Nothing.is

pub returns-in-One : goal.returns-in-One
unfolding short_text
returns-in-One c = rw c.in-One.is

pub returns-in-Two : goal.returns-in-Two
unfolding short_text
returns-in-Two c = rw c.in-Two.is

pub returns-in-Three : goal.returns-in-Three
unfolding short_text
returns-in-Three c = rw c.in-Three.is

pub returns-in-Four : goal.returns-in-Four
unfolding short_text
returns-in-Four c = rw c.in-Four.is
