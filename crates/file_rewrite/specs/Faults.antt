-- Which fault of a step is which of a file.
use Rattle.sd_io.specs.declared.fault.DiskFault.{DiskFault}
use Rattle.sd_io.specs.declared.fault.DiskFault.TheVariants as disk
use Rattle.file_exchange.specs.declared.fault.ExchangeFault.{ExchangeFault}
use Rattle.file_exchange.specs.declared.fault.ExchangeFault.TheVariants as exchange
use Rattle.file_rewrite.specs.declared.fault.JobFault.{JobFault}
use Rattle.file_rewrite.specs.declared.fault.JobFault.TheVariants as job

-- the fault of a step before the file's move; want of memory is an answer of its own
abbrev pub as_job : DiskFault → JobFault
as_job disk.Absent = job.File disk.Absent
as_job disk.Taken = job.File disk.Taken
as_job disk.Failed = job.File disk.Failed
as_job disk.NoMemory = job.NoMemory

-- the fault of an exchange
abbrev pub as_exchange_job : ExchangeFault → JobFault
as_exchange_job exchange.NoName = job.TempName
as_exchange_job (exchange.Disk fault) = as_job fault
as_exchange_job (exchange.Move fault) = job.TempfilePersist fault
