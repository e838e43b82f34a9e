-- Which kind of task a task is, and which tasks may run.
use Rattle.std.specs.Prelude.{◌<◌}
use Rattle.requests.specs.Tickets.{sessions}
use Rattle.command_line.specs.declared.task.Task.{Task}
use Rattle.command_line.specs.declared.task.Task.TheVariants.{Copy, Edit, Migrate, Resume, Serve, Tables}

-- the task is a service
abbrev pub IsService : Task → Type 0
IsService (Serve device editors forwarders places live words) = Unit {0}
IsService task = ⊥

-- the task is of two devices
abbrev pub IsOfTwo : Task → Type 0
IsOfTwo (Migrate device made) = Unit {0}
IsOfTwo (Copy device made) = Unit {0}
IsOfTwo task = ⊥

-- the task is of tables
abbrev pub IsOfTables : Task → Type 0
IsOfTables (Tables device folder nodes words) = Unit {0}
IsOfTables task = ⊥

-- the session of a task is one
abbrev pub HasSession : Task → Type 0
HasSession (Edit device session ticket change) = session < sessions
HasSession (Resume device session) = session < sessions
HasSession task = Unit {0}
