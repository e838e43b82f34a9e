-- The answer of a step in the program, as the definition of a step has it.
use Rattle.heavy_labels.specs.declared.tree_step.TreeStep.{TreeStep}
use Rattle.heavy_labels.specs.declared.tree_step.TreeStep.TheVariants.{Arrived, Port, NoParent, NoLight}
use Rattle.heavy_labels.specs.declared.tree_record.Record.{Record as Declared}
use Rattle.heavy_labels.specs.Numbering.{Step, Record, arrived, port, no_parent, no_light}

-- the program's answer as a step
abbrev pub stepped : TreeStep → Step
stepped Arrived = arrived
stepped (Port p) = port p
stepped NoParent = no_parent
stepped NoLight = no_light

-- the six fields of the program's record
abbrev pub record_of : Declared → Record
record_of r = record { first = r.first; last = r.last; heavy_last = r.heavy_last; light_depth = r.light_depth; parent_port = r.parent_port; heavy_port = r.heavy_port }
