-- `page::end_line` meets its contract: each arm puts the line of its end. Assumes nothing.
use Rattle.specification.specs.declared.End.TheVariants.{Done, Spent, Path, Output}
use Rattle.page.proofs.Lines.{end-lined}
use Rattle.page.proofs.end_line.Goals as goal

pub returns-in-Done : goal.returns-in-Done
returns-in-Done c = rw c.in-Done.is (end-lined Done c.requires c.text.ensures)

pub returns-in-Spent : goal.returns-in-Spent
returns-in-Spent c = rw c.in-Spent.is (end-lined Spent c.requires c.text-in-Spent.ensures)

pub returns-in-Path : goal.returns-in-Path
returns-in-Path c = rw c.in-Path.is (end-lined Path c.requires c.text-in-Path.ensures)

pub returns-in-Output : goal.returns-in-Output
returns-in-Output c = rw c.in-Output.is (end-lined Output c.requires c.text-in-Output.ensures)
