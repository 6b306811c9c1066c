-- What the lists that are written say.
use Rattle.chains.specs.Listed.{paired}
use Rattle.projects.specs.Projects as projects
use Rattle.projects.specs.Made.{made}
use Rattle.scribe.specs.declared.project.Project.{Project}

-- the project
abbrev pub said_by : Project → projects.Project
said_by p = made p.cap p.dur.now p.dem.now (paired p.jobs.now p.successors.now)
